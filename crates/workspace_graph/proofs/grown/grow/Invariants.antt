-- The rows so far, and the linked numbers below the next.
use Rattle.std.proofs.Common.{◌+◌, ◌-◌, length}
use Rattle.workspace_graph.specs.Growth.{AreGrown}
use Rattle.workspace_graph.specs.Shifts.{Splits}
use Rattle.workspace_graph.proofs.grown.grow.Given as goal

abbrev pub invariant-loop-growing : goal.invariant-loop-growing
invariant-loop-growing l = record {
  passed : Splits l.growing.linked.now l.index (length l.rows);
  grown : AreGrown l.growing.place l.growing.own.now l.growing.linked.now l.growing.before.now l.rows;
}

abbrev pub decreases-loop-growing : goal.decreases-loop-growing
decreases-loop-growing l = length l.growing.before.now + 1 - length l.rows
