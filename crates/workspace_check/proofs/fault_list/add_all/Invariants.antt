-- The invariants of the loops of `fault_list::add_all`.
use Rattle.std.proofs.Common.{◌≡◌, ◌++◌, take}
use Rattle.workspace_check.proofs.fault_list.add_all.Given as goal

abbrev pub invariant-loop-fault : goal.invariant-loop-fault
invariant-loop-fault l = l.found.items ≡ l.initial.found.items ++ take l.fault-index l.faults
