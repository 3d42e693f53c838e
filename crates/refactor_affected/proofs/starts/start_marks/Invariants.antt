-- The marks of the packages that were passed.
use Rattle.refactor_affected.specs.Starts.{BeginsMove}
use Rattle.refactor_affected.specs.Steps.{MarkFirst}
use Rattle.refactor_affected.proofs.starts.start_marks.Given as goal

abbrev pub invariant-loop-number : goal.invariant-loop-number
invariant-loop-number l = MarkFirst l.graph (BeginsMove l.graph l.moved.from.now l.moved.to.now) l.number l.marks.items
