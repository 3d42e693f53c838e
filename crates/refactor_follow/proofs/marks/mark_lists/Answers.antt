-- The answers to the goals of `marks::mark_lists`.
use Rattle.std.proofs.Common.{inl, inr, length, refl, arith}
use Rattle.std.proofs.lemmas.Option.{slice_get_read}
use Rattle.refactor_follow.proofs.MarkedRows.{IsListAt, all_lists, next_more, none_more}
use Rattle.refactor_follow.proofs.marks.mark_lists.Goals as goal

pub loop-k-init : goal.loop-k-init
loop-k-init c = none_more (IsListAt c.args.lists.now c.args.path.now) c.args.rows.now.items

pub loop-k-preserved : goal.loop-k-preserved
loop-k-preserved c =
    let lists = c.args.lists.now in
    let k = c.loop-k.k in
    let x = c.index-lists-k.result in
    let at = slice_get_read lists (length lists) k x refl (omega arith) c.index-lists-k.is in
    next_more (IsListAt lists c.args.path.now) k c.args.rows.now.items c.loop-k.rows.items c.mark_list.new.rows.items c.loop-k.invariant
    (λ file token e. elim (c.mark_list.ensures file token e) [
      | inl old ↦ inl old
      | inr of ↦ inr (record { list = x; has_number = at; of_path = of.0; holds = of.1 })
    ])

pub returns : goal.returns
returns c = all_lists c.args.lists.now c.args.path.now c.loop-k.k c.args.rows.now.items c.loop-k.rows.items c.loop-k.invariant
