-- What the loop of `marks::mark_places` keeps: the places that were passed have set marks.
use Rattle.refactor_follow.specs.PlainPackages.{MoreMarks}
use Rattle.refactor_follow.proofs.MarkedRows.{Below, IsPlaceAt}
use Rattle.refactor_follow.proofs.marks.mark_places.Given as goal

abbrev pub invariant-loop-k : goal.invariant-loop-k
invariant-loop-k l = MoreMarks l.initial.rows.items l.rows.items (Below (IsPlaceAt l.places) l.k)
