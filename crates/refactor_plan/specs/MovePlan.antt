-- What planning the move of the package `from` to the path `to` answers: a change, or the first reason for which there is none.
use Rattle.std.specs.Prelude.{ℕ, ◌≡◌, ◌≢◌, ◌⊎◌, List, [], ⊤, Contains, IsSome, Result, Ok, Err}
use Rattle.std.specs.FinMap as files
use Rattle.base_files.specs.Packages.{package_paths}
use Rattle.base_files.specs.Path.{IsPath}
use Rattle.base_files.specs.Workspace.{Workspace}
use Rattle.base_files.specs.declared.refusal.Refusal.{Refusal}
use Rattle.base_files.specs.declared.refusal.Refusal.TheVariants.{Memory, BadPath, NoPackage, Same, InsideItself, TargetTaken, TooLarge, Faulty, Captured, Lost}
use Rattle.workspace_check.specs.Verdicts.{Verdicts, AreVerdicts}
use Rattle.workspace_check.specs.FaultLists.{ListsFaults}
use Rattle.refs_binding.specs.Uses.{HasFirstFault}
use Rattle.base_edits.specs.RevisionsOfEdits.{revision_of}
use Rattle.refactor_preserve.specs.Preserved.{Preserves}
use Rattle.base_edits.specs.EditSet.{FileChanges, edited}
use Rattle.base_edits.specs.Fits.{Fits}
use Rattle.workspace_snapshot.specs.Fits.{FitsLimits}
use Rattle.workspace_snapshot.specs.declared.snapshot.Snapshot.{Snapshot}
use Rattle.workspace_snapshot.specs.declared.change.Change.{Change}
use Rattle.workspace_snapshot.specs.declared.change.ChangeKind.TheVariants.{Move}
use Rattle.refactor_move.specs.Paths.{IsUnder}
use Rattle.refactor_move.specs.MoveEdits.{AreMoveEdits, HasNoNewPath, IsFree}
use Rattle.refactor_plan.specs.Proposals.{NamesFirstConflict}

-- Both paths have the form of a package's path, and `from` is the path of a package.
pub record NamesMovedPackage (w : Workspace) (from to : List ℕ) : Type 0 where
  pub source : IsPath 1 from
  pub target : IsPath 1 to
  pub is_package : Contains (package_paths w) from

-- Both paths have their form, `from` is a package, and `to` is another path.
pub record HasOtherTarget (w : Workspace) (from to : List ℕ) : Type 0 where
  pub asked : NamesMovedPackage w from to
  pub other : to ≢ from

-- In addition, the path `to` does not lie in the folder `from`.
pub record HasOutsideTarget (w : Workspace) (from to : List ℕ) : Type 0 where
  pub elsewhere : HasOtherTarget w from to
  pub outside : ¬ (IsUnder from to)

-- In addition, no file lies in the folder `to`: the paths allow the move.
pub record IsMovable (w : Workspace) (from to : List ℕ) : Type 0 where
  pub beside : HasOutsideTarget w from to
  pub free : IsFree w to

-- The paths allow the move, and the workspace has no fault.
pub record IsValidMove (w : Workspace) (from to : List ℕ) : Type 0 where
  pub movable : IsMovable w from to
  pub sound : ListsFaults w []

-- Some file lies in this folder.
pub record HasFileUnder (w : Workspace) (folder : List ℕ) : Type 0 where
  pub path : List ℕ
  pub is_file : IsSome (files.get w path)
  pub under : IsUnder folder path

-- These are the edits that move the package `from` to the path `to`.
pub record MovesPackage (w : Workspace) (from to : List ℕ) (s : FileChanges) : Type 0 where
  pub known : Verdicts
  pub right : AreVerdicts w known
  pub edits : AreMoveEdits w known from to to s

-- These edits give the package `from` only the name that it has at the path `to`. Every file stays at its path.
pub record OnlyRenamesPackage (w : Workspace) (from to : List ℕ) (s : FileChanges) : Type 0 where
  pub known : Verdicts
  pub right : AreVerdicts w known
  pub edits : AreMoveEdits w known from from to s

-- The refusal names the first identifier that these edits lose or capture.
pub record NamesMoveConflict (w : Workspace) (s : FileChanges) (refusal : Refusal) : Type 0 where
  pub known : Verdicts
  pub right : AreVerdicts w known
  pub tells : NamesFirstConflict w known (revision_of w s) refusal

-- The edits that move the package do not preserve bindings, and the refusal names their first conflict.
pub record HasMoveConflict (w : Workspace) (from to : List ℕ) (refusal : Refusal) : Type 0 where
  pub changes : FileChanges
  pub moving : MovesPackage w from to changes
  pub not_preserved : ¬ (Preserves w (revision_of w changes))
  pub told : NamesMoveConflict w changes refusal

-- The move would give a file too long a path. The edits that only change the package's name do not preserve bindings, and the refusal names
-- their first conflict.
pub record HasNameConflict (w : Workspace) (from to : List ℕ) (refusal : Refusal) : Type 0 where
  pub no_path : HasNoNewPath w from to
  pub changes : FileChanges
  pub naming : OnlyRenamesPackage w from to changes
  pub not_preserved : ¬ (Preserves w (revision_of w changes))
  pub told : NamesMoveConflict w changes refusal

-- The move would give a file too long a path, but the edits that only change the package's name preserve bindings.
pub record IsTooLong (w : Workspace) (from to : List ℕ) : Type 0 where
  pub no_path : HasNoNewPath w from to
  pub changes : FileChanges
  pub naming : OnlyRenamesPackage w from to changes
  pub preserves : Preserves w (revision_of w changes)

-- The edits that move the package preserve bindings, but the files after them exceed a limit of the snapshot.
pub record IsTooLarge (snapshot : Snapshot) (from to : List ℕ) : Type 0 where
  pub changes : FileChanges
  pub moving : MovesPackage snapshot.files from to changes
  pub preserves : Preserves snapshot.files (revision_of snapshot.files changes)
  pub too_large : ¬ (FitsLimits snapshot.limits (edited changes snapshot.files))

-- The change has the edits that move the package and the files that they make of the snapshot's. They preserve bindings and keep within the
-- limits.
pub record IsMoveChange (snapshot : Snapshot) (from to : List ℕ) (change : Change) : Type 0 where
  pub moving : MovesPackage snapshot.files from to change.edits
  pub preserves : Preserves snapshot.files (revision_of snapshot.files change.edits)
  pub fits : FitsLimits snapshot.limits (edited change.edits snapshot.files)
  pub fit_files : Fits change.edits snapshot.files
  pub is_change : change ≡ record { base = snapshot.files; kind = Move; edits = change.edits; files = edited change.edits snapshot.files }

-- The change that moves the package `from` to the path `to`, or the first reason for which there is none. Where the move would give a file
-- too long a path there are no files after it. A conflict is then sought with the edits of the name alone, since bindings do not depend on
-- the paths of files.
abbrev pub PlansMove : Snapshot → (from to : List ℕ) → Result Change Refusal → Type 0
PlansMove snapshot from to (Ok change) = IsValidMove snapshot.files from to × IsMoveChange snapshot from to change
PlansMove snapshot from to (Err BadPath) = ¬ (IsPath 1 from × IsPath 1 to)
PlansMove snapshot from to (Err NoPackage) = IsPath 1 from × IsPath 1 to × ¬ (Contains (package_paths snapshot.files) from)
PlansMove snapshot from to (Err Same) = NamesMovedPackage snapshot.files from to × (to ≡ from)
PlansMove snapshot from to (Err InsideItself) = HasOtherTarget snapshot.files from to × IsUnder from to
PlansMove snapshot from to (Err TargetTaken) = HasOutsideTarget snapshot.files from to × HasFileUnder snapshot.files to
PlansMove snapshot from to (Err (Faulty place kind)) = IsMovable snapshot.files from to × HasFirstFault snapshot.files place kind
PlansMove snapshot from to (Err (Captured used by)) =
    IsValidMove snapshot.files from to × (HasMoveConflict snapshot.files from to (Captured used by) ⊎ HasNameConflict snapshot.files from to (Captured used by))
PlansMove snapshot from to (Err (Lost used)) =
    IsValidMove snapshot.files from to × (HasMoveConflict snapshot.files from to (Lost used) ⊎ HasNameConflict snapshot.files from to (Lost used))
PlansMove snapshot from to (Err TooLarge) = IsValidMove snapshot.files from to × (IsTooLong snapshot.files from to ⊎ IsTooLarge snapshot from to)
PlansMove snapshot from to (Err Memory) = ⊤
PlansMove snapshot from to (Err refusal) = ⊥
