-- The invariants of the loops of `compiling::copied`.
use Rattle.std.proofs.Common.{◌≡◌, take}
use Rattle.build_unit.proofs.compiling.copied.Given as goal

abbrev pub invariant-loop-fault : goal.invariant-loop-fault
invariant-loop-fault l = l.copies.items ≡ take l.fault-index l.faults
