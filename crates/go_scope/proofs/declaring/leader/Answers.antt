-- The answers to the goals of `declaring::leader`.
use Rattle.std.proofs.Common.{ℕ, ◌≡◌, ◌∷◌, [], ◌∙◌, List, ap, sym, subst}
use Rattle.go_scope.specs.declared.model.Block.{Block}
use Rattle.go_scope.specs.Bindings.{block_of}
use Rattle.go_scope.specs.Leading.{IsFirstIn}
use Rattle.go_scope.specs.Numbering.{numerals}
use Rattle.go_scope.specs.OuterBlocks.{block_in, outer_of}
use Rattle.go_scope.specs.Table.{layout_of}
use Rattle.go_scope.proofs.Linking.{inner_if, block_back}
use Rattle.go_scope.proofs.declaring.leader.Goals as goal

pub first_inside-requires-clause-inner : goal.first_inside-requires-clause-inner
first_inside-requires-clause-inner c =
    let l = layout_of c.args.identifiers.now in
    inner_if (block_of (l.role c.args.d)) (ap outer_of (sym (c.block.ensures ∙ ap block_of c.role_at.ensures)) ∙ sym c.outer.ensures ∙ c.in-None.is)

pub returns-in-Some : goal.returns-in-Some
returns-in-Some c =
    let l = layout_of c.args.identifiers.now in
    let names = numerals c.args.names.now in
    let own = block_of (l.role c.args.d) in
    let outer : outer_of own ≡ _ = ap outer_of (sym (c.block.ensures ∙ ap block_of c.role_at.ensures)) ∙ sym c.outer.ensures ∙ c.in-Some.is in
    let N : List ℕ → Type 0 = λ n. IsFirstIn l names n (block_in c.in-Some.block) c.args.d c.first_outside.result in
    let B : Block → Type 0 = λ b. IsFirstIn l names (names c.args.d) b c.args.d c.first_outside.result in
    subst B (block_back own c.in-Some.block outer)
    (subst N (ap (λ n. n ∷ []) c.number_at.ensures) (c.first_outside.ensures l names c.args.d c.requires.linked.outer))
