-- The invariants of the loops of `lines::fault_lines`.
use Rattle.std.proofs.Common.{◌≡◌, take}
use Rattle.server_session.specs.Listings.{fault_lines}
use Rattle.server_session.proofs.lines.fault_lines.Given as goal

-- the lines of the faults so far
abbrev pub invariant-loop-fault : goal.invariant-loop-fault
invariant-loop-fault l = l.lines.items ≡ fault_lines (take l.fault-index l.faults)
