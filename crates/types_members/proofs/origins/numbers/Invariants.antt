-- The invariants of the loops of `origins::numbers`.
use Rattle.types_members.proofs.Reaching.{OwnBelow}
use Rattle.types_members.proofs.origins.numbers.Given as goal

abbrev pub invariant-loop-number : goal.invariant-loop-number
invariant-loop-number l = OwnBelow l.own.items l.number
