-- The edits passed end at or before the offset.
use Rattle.std.proofs.Common.{◌-◌, length}
use Rattle.base_edits.specs.PassedEdits.{ArePast}
use Rattle.go_respelled.specs.Replaced.{passed}
use Rattle.go_respelled.proofs.moved.pass.Given as goal

abbrev pub invariant-loop-cursor : goal.invariant-loop-cursor
invariant-loop-cursor l = ArePast l.edits l.offset (passed l.cursor)

abbrev pub decreases-loop-cursor : goal.decreases-loop-cursor
decreases-loop-cursor l = length l.edits - l.cursor.edits
