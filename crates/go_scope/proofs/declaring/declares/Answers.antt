-- The answers to the goals of `declaring::declares`.
use Rattle.std.proofs.Common.{◌≡◌, true, ap, sym, ◌∙◌}
use Rattle.go_scope.specs.Bindings.{is_left_name}
use Rattle.go_scope.specs.Numbering.{numerals}
use Rattle.go_scope.specs.Table.{layout_of}
use Rattle.go_scope.proofs.Leading.{declares_behind, declares_not, not_if, not_both}
use Rattle.go_scope.proofs.Nests.{nests}
use Rattle.go_scope.proofs.declaring.declares.Goals as goal

pub returns-else-not-is_left_name : goal.returns-else-not-is_left_name
returns-else-not-is_left_name c =
    let l = layout_of c.args.identifiers.now in
    let names = numerals c.args.names.now in
    let left : is_left_name (l.role c.args.d) ≡ true = ap is_left_name (sym c.role_at.ensures) ∙ sym c.is_left_name.ensures ∙
    c.if-not-is_left_name.false in (
      (λ t. declares_behind l (nests l c.requires.well_formed) names c.args.d c.args.leader c.requires.leader c.requires.may_declare
          (λ left h. not_both c.holds.result t (c.holds.ensures.1 h))),
      (λ x. not_if c.holds.result (λ h. declares_not l names c.args.d c.args.leader c.requires.leader left (c.holds.ensures.0 h) x)),
    )
