-- What planning the move of the package `from` to the path `to` answers where other packages may have faults. Faults are asked of the
-- packages that the move affects. All else but the paths is asked of `v`, the part of the workspace whose packages are those without faults.
use Rattle.std.specs.Prelude.{ℕ, ◌≡◌, ◌⊎◌, List, ⊤, Contains, Result, Ok, Err, filter, is_some}
use Rattle.std.specs.FinMap as files
use Rattle.base_files.specs.Packages.{package_paths}
use Rattle.base_files.specs.Path.{IsPath}
use Rattle.base_files.specs.Workspace.{Workspace}
use Rattle.base_files.specs.declared.refusal.Refusal.{Refusal}
use Rattle.base_files.specs.declared.refusal.Refusal.TheVariants.{Memory, BadPath, NoPackage, Same, InsideItself, TargetTaken, TooLarge, Faulty, Captured, Lost}
use Rattle.base_edits.specs.EditSet.{FileChanges, edited}
use Rattle.base_edits.specs.Fits.{Fits}
use Rattle.base_edits.specs.RevisionsOfEdits.{revision_of}
use Rattle.workspace_snapshot.specs.Fits.{FitsLimits}
use Rattle.workspace_snapshot.specs.declared.snapshot.Snapshot.{Snapshot}
use Rattle.workspace_snapshot.specs.declared.change.Change.{Change}
use Rattle.workspace_snapshot.specs.declared.change.ChangeKind.TheVariants.{Move}
use Rattle.refactor_preserve.specs.Preserved.{Preserves}
use Rattle.refactor_move.specs.Paths.{IsUnder}
use Rattle.refactor_part.specs.FaultlessPart.{faultless_part}
use Rattle.refactor_part.specs.FirstFaults.{HaveNoFault, HaveFirstFault}
use Rattle.refactor_affected.specs.Starts.{IsAffectedByMove}
use Rattle.refactor_plan.specs.MovePlan.{NamesMovedPackage, HasOtherTarget, HasOutsideTarget, IsMovable, HasFileUnder, MovesPackage, HasMoveConflict}
use Rattle.refactor_plan.specs.MovePlan.{HasNameConflict, IsTooLong}

-- The paths allow the move, and no package that it affects has a fault.
pub record IsSoundMove (w : Workspace) (from to : List ℕ) : Type 0 where
  pub movable : IsMovable w from to
  pub sound : HaveNoFault w (IsAffectedByMove w from to)

-- The part of the workspace in which the move is planned.
abbrev pub part_moved : {w : Workspace} {from to : List ℕ} → IsSoundMove w from to → Workspace
part_moved {w} asked = faultless_part w asked.sound.known

-- The changes of an edit set that are changes of files of this workspace.
abbrev pub changes_within : Workspace → FileChanges → FileChanges
changes_within v s = record { changed = filter (λ c. is_some (files.get v c.path)) s.changed; added = s.added }

-- The edits that move the package preserve bindings, but the files after them exceed a limit of the snapshot. Only edits of files of the part
-- count.
pub record IsMoveOverLimit (snapshot : Snapshot) (v : Workspace) (from to : List ℕ) : Type 0 where
  pub changes : FileChanges
  pub moving : MovesPackage v from to changes
  pub preserves : Preserves v (revision_of v changes)
  pub too_large : ¬ (FitsLimits snapshot.limits (edited (changes_within v changes) snapshot.files))

-- The change has the edits that move the package and the files that they make of the snapshot's. They preserve bindings and keep within the
-- limits. Each of them is an edit of a file of the part.
pub record IsMovedBeside (snapshot : Snapshot) (v : Workspace) (from to : List ℕ) (change : Change) : Type 0 where
  pub moving : MovesPackage v from to change.edits
  pub preserves : Preserves v (revision_of v change.edits)
  pub fits : FitsLimits snapshot.limits (edited change.edits snapshot.files)
  pub fit_part : Fits change.edits v
  pub fit_files : Fits change.edits snapshot.files
  pub is_change : change ≡ record { base = snapshot.files; kind = Move; edits = change.edits; files = edited change.edits snapshot.files }

-- The change that moves the package `from` to the path `to`, or the first reason for which there is none. Where the move would give a file
-- too long a path, a conflict is sought with the edits of the name alone.
abbrev pub PlansAffectedMove : Snapshot → (from to : List ℕ) → Result Change Refusal → Type 0
PlansAffectedMove snapshot from to (Ok change) = (asked : IsSoundMove snapshot.files from to) × IsMovedBeside snapshot (part_moved asked) from to change
PlansAffectedMove snapshot from to (Err BadPath) = ¬ (IsPath 1 from × IsPath 1 to)
PlansAffectedMove snapshot from to (Err NoPackage) = IsPath 1 from × IsPath 1 to × ¬ (Contains (package_paths snapshot.files) from)
PlansAffectedMove snapshot from to (Err Same) = NamesMovedPackage snapshot.files from to × (to ≡ from)
PlansAffectedMove snapshot from to (Err InsideItself) = HasOtherTarget snapshot.files from to × IsUnder from to
PlansAffectedMove snapshot from to (Err TargetTaken) = HasOutsideTarget snapshot.files from to × HasFileUnder snapshot.files to
PlansAffectedMove snapshot from to (Err (Faulty place kind)) =
    IsMovable snapshot.files from to × HaveFirstFault snapshot.files (IsAffectedByMove snapshot.files from to) place kind
PlansAffectedMove snapshot from to (Err (Captured used by)) = (asked : IsSoundMove snapshot.files from to) ×
    (HasMoveConflict (part_moved asked) from to (Captured used by) ⊎ HasNameConflict (part_moved asked) from to (Captured used by))
PlansAffectedMove snapshot from to (Err (Lost used)) = (asked : IsSoundMove snapshot.files from to) ×
    (HasMoveConflict (part_moved asked) from to (Lost used) ⊎ HasNameConflict (part_moved asked) from to (Lost used))
PlansAffectedMove snapshot from to (Err TooLarge) = (asked : IsSoundMove snapshot.files from to) ×
    (IsTooLong (part_moved asked) from to ⊎ IsMoveOverLimit snapshot (part_moved asked) from to)
PlansAffectedMove snapshot from to (Err Memory) = ⊤
PlansAffectedMove snapshot from to (Err refusal) = ⊥
