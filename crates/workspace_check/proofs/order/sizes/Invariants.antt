-- The invariants of the loops of `order::sizes`.
use Rattle.workspace_check.specs.Steps.{AreClosureSizes}
use Rattle.workspace_check.proofs.order.sizes.Given as goal

abbrev pub invariant-loop-number : goal.invariant-loop-number
invariant-loop-number l = AreClosureSizes l.graph l.number l.sizes.items
