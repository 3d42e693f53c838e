-- The invariants of the loops of `telling::push_faults`.
use Rattle.std.proofs.Common.{◌≡◌, ◌++◌, take}
use Rattle.tool_told.specs.Telling.{faults_text}
use Rattle.tool_told.proofs.telling.push_faults.Given as goal

abbrev pub invariant-loop-fault : goal.invariant-loop-fault
invariant-loop-fault l = l.text.items ≡ l.fn.text.items ++ faults_text l.naming (take l.fault-index l.faults)
