-- The answers to the goals of `outer_blocks::first_outside`.
use Rattle.std.proofs.Common.{ℕ, Option, ◌∷◌, [], sym, subst, ◌∙◌}
use Rattle.go_scope.specs.Leading.{IsFirstIn}
use Rattle.go_scope.specs.OuterBlocks.{block_in}
use Rattle.go_scope.proofs.outer_blocks.first_outside.Goals as goal

pub returns : goal.returns
returns c = λ l names n h.
    let P : Option ℕ → Type 0 = λ x. IsFirstIn l names (c.args.name ∷ []) (block_in c.args.block) n x in
    subst P (sym (c.copied.ensures ∙ c.get.ensures.value)) (h (record { name = c.args.name; block = c.args.block }))
