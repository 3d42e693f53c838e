-- A rename of a declaration of a workspace without faults, as it is planned: what is known before it is judged.
use Rattle.std.specs.Prelude.{ℕ, ◌≡◌, ◌⊎◌, ⊤, List, [], None, Contains}
use Rattle.base_files.specs.Workspace.{Workspace}
use Rattle.base_files.specs.declared.place.Place.{Place}
use Rattle.types_declared.specs.Package.{Package}
use Rattle.workspace_check.specs.Verdicts.{Verdicts, AreVerdicts}
use Rattle.workspace_check.specs.FaultLists.{ListsFaults}
use Rattle.base_edits.specs.EditSet.{FileChanges}
use Rattle.base_edits.specs.Fits.{Fits}
use Rattle.refs_binding.specs.declared.declaration.Declaration.{Declaration}
use Rattle.refs_binding.specs.declared.declaration.Declaration.TheVariants.{Predeclared, Declared, Field, Method}
use Rattle.refs_binding.specs.Uses.{IsCheckedPackage, IsUseOf}
use Rattle.refs_binding.specs.DeclaredNames.{HasDeclaredName}
use Rattle.refactor_rename.specs.NewName.{IsNewName}
use Rattle.refactor_rename.specs.Naming.{IsFixed, IsReservedFor}
use Rattle.refactor_rename.specs.RenameEdits.{AreRenameEdits}

-- The declaration is a field or a method.
abbrev pub IsMember : Declaration → Type 0
IsMember (Predeclared n) = ⊥
IsMember (Declared path n) = ⊥
IsMember (Field s) = ⊤
IsMember (Method s) = ⊤

-- Both are fields or methods, and have one name.
pub record AreCalledAlike (IsPackage : Package → Type 0) (d e : Declaration) : Type 0 where
  pub first : IsMember d
  pub second : IsMember e
  pub called : (name : List ℕ) → HasDeclaredName IsPackage d name → HasDeclaredName IsPackage e name

-- What is renamed with the declaration `d`: itself, and if it is a member, some others of its name.
pub record IsSetWith (IsPackage : Package → Type 0) (d : Declaration) (set : List Declaration) : Type 0 where
  pub has_it : Contains set d
  pub others : (e : Declaration) → Contains set e → (e ≡ d) ⊎ AreCalledAlike IsPackage d e

-- The workspace has no fault. Some identifier is bound to the declaration, which may get the name and has another one. `s` are the edits, by
-- which those of the set get the name too.
pub record IsRename (w : Workspace) (known : Verdicts) (d : Declaration) (name : List ℕ) (s : FileChanges) : Type 0 where
  pub right : AreVerdicts w known
  pub sound : ListsFaults w []
  pub form : IsNewName name
  pub renamable : IsFixed (IsCheckedPackage w known) d → ⊥
  pub allowed : IsReservedFor (IsCheckedPackage w known) d name → ⊥
  pub other : HasDeclaredName (IsCheckedPackage w known) d name → ⊥
  pub used : (place : Place) × IsUseOf w known d place
  pub set : List Declaration
  pub is_set : IsSetWith (IsCheckedPackage w known) d set
  pub edits : AreRenameEdits w known d set name s
  pub fit : Fits s w

-- the same where no import gains a name: what is renamed is none, or has a name
pub record IsPlainRename (w : Workspace) (known : Verdicts) (d : Declaration) (name : List ℕ) (s : FileChanges) : Type 0 where
  pub rename : IsRename w known d name s
  pub plain : rename.edits.renamed.literal ≡ None
