-- The invariants of the loops of `judged_uses::judge_files`.
use Rattle.base_edits.specs.EditSet.{FileChanges}
use Rattle.types_declared.specs.Package.{Package}
use Rattle.refactor_conflict.proofs.MembersStay.{Below, FileStays}
use Rattle.refactor_members.specs.Judging.{JudgesIn}
use Rattle.refactor_members.specs.Naming.{HasUsesOf}
use Rattle.refactor_members.specs.Renames.{by, rename_revision, verdicts_in, workspace_before}
use Rattle.refactor_members.proofs.judged_uses.judge_files.Given as goal

-- the uses in the files that were passed are judged
abbrev pub invariant-loop-file : goal.invariant-loop-file
invariant-loop-file l = (s : FileChanges) (p : Package) → HasUsesOf (workspace_before l.m) (verdicts_in l.m) p l.of →
    JudgesIn (by l.m s) p (Below (FileStays (workspace_before l.m) (verdicts_in l.m) (rename_revision (by l.m s)) p) l.file) l.initial.first l.first
