-- The packages so far are finished.
use Rattle.std.proofs.Common.{◌<◌, ℕ}
use Rattle.history_book.specs.WorkLeft.{IsFinishedAt}
use Rattle.history_book.proofs.work_left.are_all_finished.Given as goal

abbrev pub invariant-loop-number : goal.invariant-loop-number
invariant-loop-number l = (k : ℕ) → k < l.number → IsFinishedAt l.state.finished k
