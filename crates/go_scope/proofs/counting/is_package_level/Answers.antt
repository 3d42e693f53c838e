-- The answers to the goals of `counting::is_package_level`.
use Rattle.std.proofs.Common.{◌≡◌, ◌∷◌, [], Bool, true, length, subst, sym}
use Rattle.std.specs.Prelude.{◌↔◌}
use Rattle.go_scope.specs.Leading.{IsDeclaredInPackage}
use Rattle.go_scope.specs.Numbering.{numerals}
use Rattle.go_scope.specs.Table.{layout_of}
use Rattle.go_scope.proofs.Binding.{in_package}
use Rattle.go_scope.proofs.Tables.{may_in_range}
use Rattle.go_scope.proofs.counting.is_package_level.Goals as goal

pub returns : goal.returns
returns c =
    let xs = c.args.identifiers.now in
    let l = layout_of xs in
    let names = numerals c.args.names.now in
    let P : Bool → Type 0 = λ b. (b ≡ true) ↔ IsDeclaredInPackage l names (c.args.name ∷ []) in
    subst P (sym c.is_some.ensures) (in_package l names (c.args.name ∷ []) (length xs) (may_in_range xs) c.first_outside.result
    (c.first_outside.ensures l names (length xs) c.requires.outer))
