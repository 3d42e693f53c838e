-- The invariants of the loops of `judged_names::judge_names`.
use Rattle.base_edits.specs.EditSet.{FileChanges}
use Rattle.types_declared.specs.Package.{Package}
use Rattle.refs_binding.specs.Workspaces.{IsPackageAt}
use Rattle.refactor_conflict.proofs.MembersStay.{Below}
use Rattle.refactor_members.specs.Judging.{JudgesIn, NamesStayOf}
use Rattle.refactor_members.specs.Renames.{by, verdicts_in, workspace_before}
use Rattle.refactor_members.proofs.judged_names.judge_names.Given as goal

-- the type definitions that were passed are judged
abbrev pub invariant-loop-rank : goal.invariant-loop-rank
invariant-loop-rank l = (s : FileChanges) (p : Package) → IsPackageAt (workspace_before l.m) (verdicts_in l.m) l.number p →
    JudgesIn (by l.m s) p (Below (NamesStayOf (by l.m s) p) l.rank) l.initial.first l.first
