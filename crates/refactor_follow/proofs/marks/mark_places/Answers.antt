-- The answers to the goals of `marks::mark_places`.
use Rattle.std.proofs.Common.{Some, inl, inr, ap, ◌∙◌, arith}
use Rattle.std.proofs.lemmas.Option.{slice_get-get_or}
use Rattle.refactor_follow.specs.PlainPackages.{behind_dot}
use Rattle.refactor_follow.proofs.MarkedRows.{IsPlaceAt, all_places, more_as, next_more, none_more}
use Rattle.refactor_follow.proofs.marks.mark_places.Goals as goal

pub loop-k-init : goal.loop-k-init
loop-k-init c = none_more (IsPlaceAt c.args.places.now) c.args.rows.now.items

pub loop-k-preserved : goal.loop-k-preserved
loop-k-preserved c =
    let places = c.args.places.now in
    let k = c.loop-k.k in
    next_more (IsPlaceAt places) k c.args.rows.now.items c.loop-k.rows.items c.mark_before.new.rows.items c.loop-k.invariant
    (λ file token e. elim (c.mark_before.ensures file token e) [
      | inl old ↦ inl old
      | inr at ↦ inr (slice_get-get_or places k _ (omega arith) ∙ ap Some at)
    ])

pub returns : goal.returns
returns c = all_places c.args.places.now c.loop-k.k c.args.rows.now.items c.loop-k.rows.items c.loop-k.invariant
