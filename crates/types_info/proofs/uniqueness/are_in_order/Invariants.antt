-- The invariants of the loops of `uniqueness::are_in_order`.
use Rattle.types_info.proofs.TreeOrder.{InOrderBelow}
use Rattle.types_info.proofs.uniqueness.are_in_order.Given as goal

abbrev pub invariant-loop-rank : goal.invariant-loop-rank
invariant-loop-rank l = InOrderBelow l.files l.rank
