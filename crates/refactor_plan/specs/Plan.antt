-- What planning the rename of the identifier at `path:offset` to `name` answers: a change, or the first reason for which there is none.
use Rattle.std.specs.Prelude.{ℕ, ◌≡◌, ◌⊎◌, List, [], ⊤, None, Result, Ok, Err}
use Rattle.std.specs.FinMap as files
use Rattle.base_files.specs.Path.{IsPath}
use Rattle.base_files.specs.Workspace.{Workspace}
use Rattle.base_files.specs.declared.refusal.Refusal.{Refusal}
use Rattle.base_files.specs.declared.refusal.Refusal.TheVariants.{Memory, BadPath, NoFile, TooLarge, Faulty, NoIdentifier, NotRenamable, BadName, Same}
use Rattle.base_files.specs.declared.refusal.Refusal.TheVariants.{Captured, Coupled, Lost}
use Rattle.workspace_check.specs.Verdicts.{Verdicts, AreVerdicts}
use Rattle.workspace_check.specs.FaultLists.{ListsFaults}
use Rattle.refs_binding.specs.declared.declaration.Declaration.{Declaration}
use Rattle.refs_binding.specs.Uses.{IsCheckedPackage, HasFileAt, HasDeclaration, HasNoIdentifier, HasNoDeclaration, HasFirstFault}
use Rattle.refs_binding.specs.DeclaredNames.{HasDeclaredName}
use Rattle.base_edits.specs.RevisionsOfEdits.{revision_of}
use Rattle.base_edits.specs.EditSet.{FileChanges, edited}
use Rattle.base_edits.specs.Fits.{Fits}
use Rattle.workspace_snapshot.specs.Fits.{FitsLimits}
use Rattle.workspace_snapshot.specs.declared.snapshot.Snapshot.{Snapshot}
use Rattle.workspace_snapshot.specs.declared.change.Change.{Change}
use Rattle.workspace_snapshot.specs.declared.change.ChangeKind.TheVariants.{Rename}
use Rattle.refactor_rename.specs.NewName.{IsNewName}
use Rattle.refactor_rename.specs.Naming.{IsFixed, IsReservedFor}
use Rattle.refactor_coupled.specs.CoupledEdits.{AreCoupledEdits}
use Rattle.refactor_coupled.specs.Obstacles.{PreservesAll}
use Rattle.refactor_plan.specs.Proposals.{NamesFirstObstacle}

-- The path and the name have their forms, the file exists, and the workspace has no fault.
pub record IsValidRename (w : Workspace) (path name : List ℕ) : Type 0 where
  pub file : HasFileAt w path
  pub form : IsNewName name
  pub sound : ListsFaults w []

-- The identifier at the byte is bound to a declaration, `declaration`.
pub record ResolvesIdentifier (w : Workspace) (path : List ℕ) (offset : ℕ) : Type 0 where
  pub known : Verdicts
  pub right : AreVerdicts w known
  pub declaration : Declaration
  pub has : HasDeclaration w known path offset declaration

-- The identifier at the byte is bound to a declaration that cannot be renamed.
pub record ResolvesToFixed (w : Workspace) (path : List ℕ) (offset : ℕ) : Type 0 where
  pub asked : ResolvesIdentifier w path offset
  pub fixed : IsFixed (IsCheckedPackage w asked.known) asked.declaration

-- The identifier at the byte is bound to a declaration that can be renamed.
pub record IsRenamable (w : Workspace) (path : List ℕ) (offset : ℕ) : Type 0 where
  pub asked : ResolvesIdentifier w path offset
  pub not_fixed : ¬ (IsFixed (IsCheckedPackage w asked.known) asked.declaration)

-- The identifier at the byte is bound to a declaration that can be renamed, but not to this name, which is reserved for it.
pub record ResolvesToReserved (w : Workspace) (path : List ℕ) (offset : ℕ) (name : List ℕ) : Type 0 where
  pub renamable : IsRenamable w path offset
  pub reserved : IsReservedFor (IsCheckedPackage w renamable.asked.known) renamable.asked.declaration name

-- The identifier at the byte is bound to a declaration that can be renamed, and `name` is a legal name for it.
pub record IsLegalName (w : Workspace) (path : List ℕ) (offset : ℕ) (name : List ℕ) : Type 0 where
  pub renamable : IsRenamable w path offset
  pub allowed : ¬ (IsReservedFor (IsCheckedPackage w renamable.asked.known) renamable.asked.declaration name)

-- The identifier at the byte is bound to a declaration that already has this name.
pub record ResolvesToNamesake (w : Workspace) (path : List ℕ) (offset : ℕ) (name : List ℕ) : Type 0 where
  pub may : IsLegalName w path offset name
  pub called : HasDeclaredName (IsCheckedPackage w may.renamable.asked.known) may.renamable.asked.declaration name

-- These are the edits that rename the declaration of the identifier at the byte, and what is renamed with it. The name is legal for it and is
-- not its present name.
pub record RenamesIdentifier (w : Workspace) (path : List ℕ) (offset : ℕ) (name : List ℕ) (s : FileChanges) : Type 0 where
  pub may : IsLegalName w path offset name
  pub other : ¬ (HasDeclaredName (IsCheckedPackage w may.renamable.asked.known) may.renamable.asked.declaration name)
  pub set : List Declaration
  pub edits : AreCoupledEdits w may.renamable.asked.known may.renamable.asked.declaration set name s

-- The edits of the rename do not preserve bindings, or which types implement which interfaces. The refusal names the first obstacle.
pub record HasConflict (w : Workspace) (path : List ℕ) (offset : ℕ) (name : List ℕ) (refusal : Refusal) : Type 0 where
  pub changes : FileChanges
  pub renaming : RenamesIdentifier w path offset name changes
  pub not_preserved : ¬ (PreservesAll w (revision_of w changes))
  pub known : Verdicts
  pub right : AreVerdicts w known
  pub told : NamesFirstObstacle w known (revision_of w changes) refusal

-- The edits of the rename preserve bindings and implementing types, but the files after them exceed a limit of the snapshot.
pub record IsRenameTooLarge (snapshot : Snapshot) (path : List ℕ) (offset : ℕ) (name : List ℕ) : Type 0 where
  pub changes : FileChanges
  pub renaming : RenamesIdentifier snapshot.files path offset name changes
  pub preserves : PreservesAll snapshot.files (revision_of snapshot.files changes)
  pub too_large : ¬ (FitsLimits snapshot.limits (edited changes snapshot.files))

-- The change has the edits of the rename and the files that they make of the snapshot's. They preserve bindings and implementing types, and
-- keep within the limits.
pub record IsRenamed (snapshot : Snapshot) (path : List ℕ) (offset : ℕ) (name : List ℕ) (change : Change) : Type 0 where
  pub renaming : RenamesIdentifier snapshot.files path offset name change.edits
  pub preserves : PreservesAll snapshot.files (revision_of snapshot.files change.edits)
  pub fits : FitsLimits snapshot.limits (edited change.edits snapshot.files)
  pub fit_files : Fits change.edits snapshot.files
  pub is_change : change ≡ record { base = snapshot.files; kind = Rename; edits = change.edits; files = edited change.edits snapshot.files }

-- The change that renames the identifier at `path:offset` to `name`, or the first reason for which there is none.
abbrev pub PlansRename : Snapshot → List ℕ → ℕ → List ℕ → Result Change Refusal → Type 0
PlansRename snapshot path offset name (Ok change) = IsValidRename snapshot.files path name × IsRenamed snapshot path offset name change
PlansRename snapshot path offset name (Err BadPath) = ¬ (IsPath 2 path)
PlansRename snapshot path offset name (Err BadName) =
    (IsPath 2 path × ¬ (IsNewName name)) ⊎ (IsValidRename snapshot.files path name × ResolvesToReserved snapshot.files path offset name)
PlansRename snapshot path offset name (Err NoFile) = IsPath 2 path × IsNewName name × (files.get snapshot.files path ≡ None)
PlansRename snapshot path offset name (Err (Faulty place kind)) = HasFileAt snapshot.files path × IsNewName name × HasFirstFault snapshot.files place kind
PlansRename snapshot path offset name (Err NoIdentifier) = IsValidRename snapshot.files path name × HasNoIdentifier snapshot.files path offset
PlansRename snapshot path offset name (Err NotRenamable) =
    IsValidRename snapshot.files path name × (HasNoDeclaration snapshot.files path offset ⊎ ResolvesToFixed snapshot.files path offset)
PlansRename snapshot path offset name (Err Same) = IsValidRename snapshot.files path name × ResolvesToNamesake snapshot.files path offset name
PlansRename snapshot path offset name (Err (Captured used by)) = IsValidRename snapshot.files path name ×
    HasConflict snapshot.files path offset name (Captured used by)
PlansRename snapshot path offset name (Err (Lost used)) = IsValidRename snapshot.files path name × HasConflict snapshot.files path offset name (Lost used)
PlansRename snapshot path offset name (Err (Coupled place)) = IsValidRename snapshot.files path name ×
    HasConflict snapshot.files path offset name (Coupled place)
PlansRename snapshot path offset name (Err TooLarge) = IsValidRename snapshot.files path name × IsRenameTooLarge snapshot path offset name
PlansRename snapshot path offset name (Err Memory) = ⊤
PlansRename snapshot path offset name (Err refusal) = ⊥
