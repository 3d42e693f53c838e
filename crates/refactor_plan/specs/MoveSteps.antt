-- What the steps of planning a move answer.
use Rattle.std.specs.Prelude.{ℕ, ◌≡◌, ◌⊎◌, List, [], ⊤, Contains, Result, Ok, Err}
use Rattle.base_files.specs.Packages.{package_paths}
use Rattle.base_files.specs.Path.{IsPath}
use Rattle.base_files.specs.Workspace.{Workspace}
use Rattle.base_files.specs.declared.refusal.Refusal.{Refusal}
use Rattle.base_files.specs.declared.refusal.Refusal.TheVariants.{Memory, NoPackage, Same, InsideItself, TargetTaken, TooLarge, Faulty, Captured, Lost}
use Rattle.workspace_check.specs.Verdicts.{Verdicts}
use Rattle.workspace_check.specs.FaultLists.{ListsFaults}
use Rattle.refs_binding.specs.Uses.{HasFirstFault}
use Rattle.base_edits.specs.RevisionsOfEdits.{revision_of}
use Rattle.refactor_preserve.specs.Preserved.{Preserves}
use Rattle.base_edits.specs.EditSet.{FileChanges}
use Rattle.workspace_snapshot.specs.declared.snapshot.Snapshot.{Snapshot}
use Rattle.workspace_snapshot.specs.declared.change.Change.{Change}
use Rattle.refactor_move.specs.Paths.{IsUnder}
use Rattle.refactor_move.specs.MoveEdits.{IsFree}
use Rattle.refactor_plan.specs.Proposals.{IsConflictRefusal}
use Rattle.refactor_plan.specs.MovePlan.{HasFileUnder, HasMoveConflict, HasNameConflict, IsTooLong, IsTooLarge, IsMoveChange}

-- Both texts have the form of a package's path.
pub record ArePackagePaths (from to : List ℕ) : Type 0 where
  pub source : IsPath 1 from
  pub target : IsPath 1 to

-- Ok where the package `from` can be moved to the path `to`, or the first reason of the paths against it.
abbrev pub RefusesTarget : Workspace → (from to : List ℕ) → Result (Unit {0}) Refusal → Type 0
RefusesTarget w from to (Ok done) = Contains (package_paths w) from × ¬ (to ≡ from) × ¬ (IsUnder from to) × IsFree w to
RefusesTarget w from to (Err NoPackage) = ¬ (Contains (package_paths w) from)
RefusesTarget w from to (Err Same) = Contains (package_paths w) from × (to ≡ from)
RefusesTarget w from to (Err InsideItself) = Contains (package_paths w) from × ¬ (to ≡ from) × IsUnder from to
RefusesTarget w from to (Err TargetTaken) = Contains (package_paths w) from × ¬ (to ≡ from) × ¬ (IsUnder from to) × HasFileUnder w to
RefusesTarget w from to (Err refusal) = ⊥

-- Why these edits of the name alone are refused where the move would give a file too long a path: their first conflict, or `TooLarge`.
abbrev pub RefusesLength : Workspace → Verdicts → FileChanges → Result Change Refusal → Type 0
RefusesLength w known s (Ok change) = ⊥
RefusesLength w known s (Err TooLarge) = Preserves w (revision_of w s)
RefusesLength w known s (Err (Captured used by)) = IsConflictRefusal w known s (Captured used by)
RefusesLength w known s (Err (Lost used)) = IsConflictRefusal w known s (Lost used)
RefusesLength w known s (Err Memory) = ⊤
RefusesLength w known s (Err refusal) = ⊥

-- What planning a move answers where the paths allow it: the cases of `PlansMove` without those of the paths.
abbrev pub PlansMoveTo : Snapshot → (from to : List ℕ) → Result Change Refusal → Type 0
PlansMoveTo snapshot from to (Ok change) = ListsFaults snapshot.files [] × IsMoveChange snapshot from to change
PlansMoveTo snapshot from to (Err (Faulty place kind)) = HasFirstFault snapshot.files place kind
PlansMoveTo snapshot from to (Err (Captured used by)) =
    ListsFaults snapshot.files [] × (HasMoveConflict snapshot.files from to (Captured used by) ⊎ HasNameConflict snapshot.files from to (Captured used by))
PlansMoveTo snapshot from to (Err (Lost used)) =
    ListsFaults snapshot.files [] × (HasMoveConflict snapshot.files from to (Lost used) ⊎ HasNameConflict snapshot.files from to (Lost used))
PlansMoveTo snapshot from to (Err TooLarge) = ListsFaults snapshot.files [] × (IsTooLong snapshot.files from to ⊎ IsTooLarge snapshot from to)
PlansMoveTo snapshot from to (Err Memory) = ⊤
PlansMoveTo snapshot from to (Err refusal) = ⊥
