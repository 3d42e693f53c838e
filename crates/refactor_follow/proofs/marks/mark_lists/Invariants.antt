-- What the loop of `marks::mark_lists` keeps: the lists that were passed have set marks.
use Rattle.refactor_follow.specs.PlainPackages.{MoreMarks}
use Rattle.refactor_follow.proofs.MarkedRows.{Below, IsListAt}
use Rattle.refactor_follow.proofs.marks.mark_lists.Given as goal

abbrev pub invariant-loop-k : goal.invariant-loop-k
invariant-loop-k l = MoreMarks l.initial.rows.items l.rows.items (Below (IsListAt l.lists l.path) l.k)
