-- What planning the rename of the identifier at `path:offset` to `name` answers where other packages may have faults. Faults are asked of the
-- identifier's own package first, then of the packages that the rename affects. All else is asked of `v`, the part of the workspace whose
-- packages are those without faults: no other package has a say.
use Rattle.std.specs.Prelude.{ℕ, ◌≡◌, ◌⊎◌, List, None, Result, Ok, Err, ⊤}
use Rattle.std.specs.FinMap as files
use Rattle.base_files.specs.Path.{IsPath, folder}
use Rattle.base_files.specs.Workspace.{Workspace}
use Rattle.base_files.specs.declared.fault_kind.FaultKind.{FaultKind}
use Rattle.base_files.specs.declared.place.Place.{Place}
use Rattle.base_files.specs.declared.refusal.Refusal.{Refusal}
use Rattle.base_files.specs.declared.refusal.Refusal.TheVariants.{Memory, BadPath, NoFile, TooLarge, Faulty, NoIdentifier, NotRenamable, BadName, Same}
use Rattle.base_files.specs.declared.refusal.Refusal.TheVariants.{Captured, Coupled, Lost}
use Rattle.base_edits.specs.EditSet.{FileChanges, edited}
use Rattle.base_edits.specs.Fits.{Fits}
use Rattle.base_edits.specs.RevisionsOfEdits.{revision_of}
use Rattle.workspace_snapshot.specs.Fits.{FitsLimits}
use Rattle.workspace_snapshot.specs.declared.snapshot.Snapshot.{Snapshot}
use Rattle.workspace_snapshot.specs.declared.change.Change.{Change}
use Rattle.workspace_snapshot.specs.declared.change.ChangeKind.TheVariants.{Rename}
use Rattle.refs_binding.specs.Uses.{IsCheckedPackage, HasFileAt, HasNoIdentifier, HasNoDeclaration}
use Rattle.refs_binding.specs.DeclaredNames.{HasDeclaredName}
use Rattle.refs_binding.specs.declared.declaration.Declaration.{Declaration}
use Rattle.refs_places.specs.Homes.{IsHomeOfSome}
use Rattle.refactor_coupled.specs.Coupling.{IsRenamedSet}
use Rattle.refactor_coupled.specs.Obstacles.{PreservesAll}
use Rattle.refactor_rename.specs.NewName.{IsNewName}
use Rattle.refactor_part.specs.Affected.{IsAffected}
use Rattle.refactor_part.specs.FaultlessPart.{faultless_part}
use Rattle.refactor_part.specs.FirstFaults.{HaveNoFault, HaveFirstFault}
use Rattle.refactor_plan.specs.Plan.{ResolvesIdentifier, ResolvesToFixed, ResolvesToReserved, ResolvesToNamesake, IsLegalName, RenamesIdentifier, HasConflict}

-- The path is that of the package in the folder of a file.
abbrev pub IsOwnPath : (file path : List ℕ) → Type 0
IsOwnPath file path = path ≡ folder file

-- The path and the name have their forms, the file exists, and its own package has no fault.
pub record IsAskedInSound (w : Workspace) (path name : List ℕ) : Type 0 where
  pub file : HasFileAt w path
  pub form : IsNewName name
  pub sound : HaveNoFault w (IsOwnPath path)

-- The part of the workspace in which the rename is planned.
abbrev pub part_asked : {w : Workspace} {path name : List ℕ} → IsAskedInSound w path name → Workspace
part_asked {w} asked = faultless_part w asked.sound.known

-- The path is that of the package that declares what the identifier at the byte is bound to, or something that is renamed with that.
pub record IsDeclaringPath (v : Workspace) (path : List ℕ) (offset : ℕ) (home : List ℕ) : Type 0 where
  pub asked : ResolvesIdentifier v path offset
  pub set : List Declaration
  pub is_set : IsRenamedSet (IsCheckedPackage v asked.known) asked.declaration set
  pub declares : IsHomeOfSome set home

-- The packages that the rename affects: those whose closure holds a declaring package.
abbrev pub IsAffectedByRename : Workspace → Workspace → (path : List ℕ) → (offset : ℕ) → List ℕ → Type 0
IsAffectedByRename w v path offset = IsAffected w (IsDeclaringPath v path offset)

-- The name is legal for the declaration of the identifier at the byte, which has another one.
pub record MayRename (v : Workspace) (path : List ℕ) (offset : ℕ) (name : List ℕ) : Type 0 where
  pub may : IsLegalName v path offset name
  pub other : ¬ (HasDeclaredName (IsCheckedPackage v may.renamable.asked.known) may.renamable.asked.declaration name)

-- The first fault of the identifier's own package. Where it has none and the name may be given, the first one of the affected packages.
pub data HasAskedFault (w : Workspace) (path : List ℕ) (offset : ℕ) (name : List ℕ) (place : Place) (kind : FaultKind) : Type 0 where
  own : HasFileAt w path → IsNewName name → HaveFirstFault w (IsOwnPath path) place kind → HasAskedFault w path offset name place kind
  affected : (asked : IsAskedInSound w path name) → MayRename (part_asked asked) path offset name →
      HaveFirstFault w (IsAffectedByRename w (part_asked asked) path offset) place kind → HasAskedFault w path offset name place kind

-- The packages that the rename affects have no fault.
abbrev pub IsSoundRename : (w v : Workspace) → (path : List ℕ) → (offset : ℕ) → Type 0
IsSoundRename w v path offset = HaveNoFault w (IsAffectedByRename w v path offset)

-- The edits of the rename preserve bindings and implementing types, but the files after them exceed a limit of the snapshot.
pub record IsRenameOverLimit (snapshot : Snapshot) (v : Workspace) (path : List ℕ) (offset : ℕ) (name : List ℕ) : Type 0 where
  pub sound : IsSoundRename snapshot.files v path offset
  pub changes : FileChanges
  pub renaming : RenamesIdentifier v path offset name changes
  pub preserves : PreservesAll v (revision_of v changes)
  pub too_large : ¬ (FitsLimits snapshot.limits (edited changes snapshot.files))

-- The change has the edits of the rename and the files that they make of the snapshot's. They preserve bindings and implementing
-- types, and keep within the limits. Each of them is an edit of a file of the part.
pub record IsRenamedBeside (snapshot : Snapshot) (v : Workspace) (path : List ℕ) (offset : ℕ) (name : List ℕ) (change : Change) : Type 0 where
  pub sound : IsSoundRename snapshot.files v path offset
  pub renaming : RenamesIdentifier v path offset name change.edits
  pub preserves : PreservesAll v (revision_of v change.edits)
  pub fits : FitsLimits snapshot.limits (edited change.edits snapshot.files)
  pub fit_part : Fits change.edits v
  pub fit_files : Fits change.edits snapshot.files
  pub is_change : change ≡ record { base = snapshot.files; kind = Rename; edits = change.edits; files = edited change.edits snapshot.files }

-- The change that renames the identifier at `path:offset` to `name`, or the first reason for which there is none.
abbrev pub PlansAffectedRename : Snapshot → List ℕ → ℕ → List ℕ → Result Change Refusal → Type 0
PlansAffectedRename snapshot path offset name (Ok change) =
    (asked : IsAskedInSound snapshot.files path name) × IsRenamedBeside snapshot (part_asked asked) path offset name change
PlansAffectedRename snapshot path offset name (Err BadPath) = ¬ (IsPath 2 path)
PlansAffectedRename snapshot path offset name (Err BadName) =
    (IsPath 2 path × ¬ (IsNewName name)) ⊎ ((asked : IsAskedInSound snapshot.files path name) × ResolvesToReserved (part_asked asked) path offset name)
PlansAffectedRename snapshot path offset name (Err NoFile) = IsPath 2 path × IsNewName name × (files.get snapshot.files path ≡ None)
PlansAffectedRename snapshot path offset name (Err (Faulty place kind)) = HasAskedFault snapshot.files path offset name place kind
PlansAffectedRename snapshot path offset name (Err NoIdentifier) =
    (asked : IsAskedInSound snapshot.files path name) × HasNoIdentifier (part_asked asked) path offset
PlansAffectedRename snapshot path offset name (Err NotRenamable) =
    (asked : IsAskedInSound snapshot.files path name) × (HasNoDeclaration (part_asked asked) path offset ⊎ ResolvesToFixed (part_asked asked) path offset)
PlansAffectedRename snapshot path offset name (Err Same) =
    (asked : IsAskedInSound snapshot.files path name) × ResolvesToNamesake (part_asked asked) path offset name
PlansAffectedRename snapshot path offset name (Err (Captured used by)) = (asked : IsAskedInSound snapshot.files path name) ×
    IsSoundRename snapshot.files (part_asked asked) path offset × HasConflict (part_asked asked) path offset name (Captured used by)
PlansAffectedRename snapshot path offset name (Err (Lost used)) = (asked : IsAskedInSound snapshot.files path name) ×
    IsSoundRename snapshot.files (part_asked asked) path offset × HasConflict (part_asked asked) path offset name (Lost used)
PlansAffectedRename snapshot path offset name (Err (Coupled place)) = (asked : IsAskedInSound snapshot.files path name) ×
    IsSoundRename snapshot.files (part_asked asked) path offset × HasConflict (part_asked asked) path offset name (Coupled place)
PlansAffectedRename snapshot path offset name (Err TooLarge) =
    (asked : IsAskedInSound snapshot.files path name) × IsRenameOverLimit snapshot (part_asked asked) path offset name
PlansAffectedRename snapshot path offset name (Err Memory) = ⊤
PlansAffectedRename snapshot path offset name (Err refusal) = ⊥
