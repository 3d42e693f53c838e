-- The edits so far replace tokens, and those that make the rest make the whole.
use Rattle.go_respelled.proofs.Walked.{RespellUpTo}
use Rattle.go_respelled.proofs.between.edits_between.Given as goal

abbrev pub invariant-loop : goal.invariant-loop
invariant-loop l = RespellUpTo l.old l.edits.items l.new l.at l.left
