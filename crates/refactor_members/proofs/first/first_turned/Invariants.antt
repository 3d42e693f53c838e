-- The invariants of the loops of `first::first_turned`.
use Rattle.std.specs.Prelude.{None}
use Rattle.base_edits.specs.EditSet.{FileChanges}
use Rattle.refactor_conflict.specs.Conflicts.{IsConflict}
use Rattle.refactor_conflict.proofs.MembersStay.{Below}
use Rattle.refactor_members.specs.Judging.{Judges}
use Rattle.refactor_members.specs.Renames.{by, rename_revision, verdicts_in, workspace_before}
use Rattle.refactor_members.proofs.AllPackages.{NumberStays}
use Rattle.refactor_members.proofs.first.first_turned.Given as goal

-- the packages that were passed are judged
abbrev pub invariant-loop-number : goal.invariant-loop-number
invariant-loop-number l = (s : FileChanges) → Judges (by l.m s) (IsConflict (workspace_before l.m) (verdicts_in l.m) (rename_revision (by l.m s)))
    (Below (NumberStays (by l.m s)) l.number) None l.first
