-- What the loop of `marks::no_marks` keeps: no mark is set.
use Rattle.std.proofs.Common.{ℕ, ◌≡◌, false}
use Rattle.refactor_move.specs.Uses.{mark_at}
use Rattle.refactor_follow.proofs.marks.no_marks.Given as goal

abbrev pub invariant-loop-file : goal.invariant-loop-file
invariant-loop-file l = (file token : ℕ) → mark_at l.rows.items file token ≡ false
