-- The invariants of the loops of `values::falls`.
use Rattle.types_members.proofs.Reaching.{FallsBelow}
use Rattle.types_members.proofs.values.falls.Given as goal

abbrev pub invariant-loop-number : goal.invariant-loop-number
invariant-loop-number l = FallsBelow l.links l.values l.number
