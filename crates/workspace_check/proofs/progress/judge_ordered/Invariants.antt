-- The invariants of the loops of `progress::judge_ordered`.
use Rattle.std.proofs.Common.{take}
use Rattle.workspace_check.proofs.Underway.{AreJudgedTo}
use Rattle.workspace_check.proofs.progress.judge_ordered.Given as goal

abbrev pub invariant-loop-next : goal.invariant-loop-next
invariant-loop-next l = AreJudgedTo l.graph l.below (take l.next-index l.order) l.all
