-- The invariants of the loops of `findings::judge_changed`.
use Rattle.std.proofs.Common.{take}
use Rattle.workspace_check.specs.Earlier.{KeepExportData}
use Rattle.workspace_check.specs.PassedMarks.{AffectsImporters}
use Rattle.workspace_check.specs.Steps.{AreAllGathered}
use Rattle.workspace_check.proofs.Passing.{ArePassed}
use Rattle.workspace_check.proofs.findings.judge_changed.Given as goal

abbrev pub invariant-loop-number : goal.invariant-loop-number
invariant-loop-number l = AreAllGathered l.graph (take l.number-index l.order) l.all × KeepExportData l.graph l.earlier.verdicts.items l.all
    l.steady.marks.items
    × AffectsImporters l.graph l.steady × ArePassed (take l.number-index l.order) l.steady
