-- The invariants of the loops of `findings::judge_all`.
use Rattle.std.proofs.Common.{take}
use Rattle.workspace_check.specs.Steps.{AreAllGathered}
use Rattle.workspace_check.proofs.findings.judge_all.Given as goal

abbrev pub invariant-loop-number : goal.invariant-loop-number
invariant-loop-number l = AreAllGathered l.graph (take l.number-index l.order) l.all
