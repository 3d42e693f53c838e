-- The records found so far, and the bytes that are left.
use Rattle.std.proofs.Common.{length, map}
use Rattle.history_records.proofs.ReadRecords.{HasReadTo}
use Rattle.history_records.proofs.reading.whole_records.Given as goal

abbrev pub invariant-loop-one : goal.invariant-loop-one
invariant-loop-one l = HasReadTo l.fn.bytes (map (λ held. held.now) l.held.items) l.left

abbrev pub decreases-loop-one : goal.decreases-loop-one
decreases-loop-one l = length l.left
