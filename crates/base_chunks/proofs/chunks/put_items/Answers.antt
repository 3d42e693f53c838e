-- The count is that of the other items and the new ones.
use Rattle.std.proofs.Common.{◌≡◌, ◌+◌, ◌-◌, [], length, get_or, vec_len, ap, ◌∙◌, arith}
use Rattle.std.proofs.lemmas.Grind.{common_steps}
use Rattle.base_chunks.proofs.Joining.{part_length, replaced_length}
use Rattle.base_chunks.proofs.chunks.put_items.Goals as goal

pub overflow_sub-others : goal.overflow_sub-others
overflow_sub-others g c =
    let i = c.args.at in
    let part = ap length (c.items_at.ensures ∙ ap (λ cs. get_or cs i []) c.deref.ensures.value) in
    omega (arith, part, part_length c.args.chunks.now.items i)

pub returns-clause-count : goal.returns-clause-count
returns-clause-count g c =
    let old = c.args.chunks.now.items in
    let i = c.args.at in
    let ws = c.args.items.items in
    let part = ap length (c.items_at.ensures ∙ ap (λ cs. get_or cs i []) c.deref.ensures.value) in
    let sum : c.in_ok-new_len.new_len ≡ c.args.len - length c.items_at.result.now + vec_len c.args.items = grind (arith, common_steps) in
    replaced_length old c.replace.new.chunks.items i ws c.in_ok-new_len.new_len c.in_ok-replace.ensures.ok
    (omega (arith, sum, part, part_length old i, c.args.items.ok.0))
