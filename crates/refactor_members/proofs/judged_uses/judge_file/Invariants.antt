-- The invariants of the loops of `judged_uses::judge_file`.
use Rattle.std.specs.Prelude.{map}
use Rattle.types_expr.specs.Found.{use_of}
use Rattle.base_edits.specs.EditSet.{FileChanges}
use Rattle.types_declared.specs.Package.{Package}
use Rattle.types_info.specs.MemberUses.{AreUsesIn}
use Rattle.refs_binding.specs.Members.{definitions_known}
use Rattle.refactor_conflict.specs.Conflicts.{IsMemberConflictIn}
use Rattle.refactor_conflict.proofs.MembersStay.{Below, RankStays}
use Rattle.refactor_members.specs.Judging.{Judges}
use Rattle.refactor_members.specs.Naming.{HasUsesOf}
use Rattle.refactor_members.specs.Renames.{by, packages_before, rename_revision, verdicts_in, workspace_before}
use Rattle.refactor_members.proofs.judged_uses.judge_file.Given as goal

-- the uses that were passed are judged
abbrev pub invariant-loop-k : goal.invariant-loop-k
invariant-loop-k l = (s : FileChanges) (p : Package) → HasUsesOf (workspace_before l.m) (verdicts_in l.m) p l.of → AreUsesIn p l.file (map use_of l.uses) →
    Judges (by l.m s) (IsMemberConflictIn (packages_before l.m) (rename_revision (by l.m s)) (definitions_known l.of.types) p l.file (map use_of l.uses))
    (Below (RankStays (packages_before l.m) (rename_revision (by l.m s)) (definitions_known l.of.types) p l.file (map use_of l.uses)) l.k) l.initial.first
    l.first
