-- The scopes of the packages of a workspace, before and after a plain rename.
use Rattle.std.specs.Prelude.{ℕ, ◌≡◌, List}
use Rattle.base_files.specs.Workspace.{Workspace}
use Rattle.base_edits.specs.EditSet.{FileChanges, edited}
use Rattle.base_edits.specs.RevisionsOfEdits.{revision_of}
use Rattle.go_scope.specs.Bindings.{IsBoundTo}
use Rattle.types_declared.specs.Package.{Package}
use Rattle.base_files.specs.declared.place.Place.{Place}
use Rattle.base_edits.specs.Revisions.{Revision}
use Rattle.workspace_check.specs.Verdicts.{Verdicts, AreVerdicts}
use Rattle.refs_binding.specs.declared.declaration.Declaration.{Declaration}
use Rattle.refs_binding.specs.declared.declaration.Declaration.TheVariants.{Declared}
use Rattle.refs_binding.specs.Uses.{IsCheckedPackage}
use Rattle.refactor_conflict.specs.Staying.{NoneIsLost, NamesStayIn}
use Rattle.law_rename.specs.Renaming.{Renames}
use Rattle.law_changed_types.specs.SameBindings.{IsBoundAlike}
use Rattle.law_renamed_workspaces.specs.Renames.{IsPlainRename}
use Rattle.law_renamed_workspaces.specs.Layouts.{IsRelaid}
use Rattle.law_renamed_workspaces.specs.MovedExports.{AreMovedBelow}

-- A plain rename of a declaration of a package's scopes is a rename on the layout of that package.
abbrev pub OwnRenamesAreRenames : Type 0
OwnRenamesAreRenames = (w : Workspace) (before : Verdicts) (path : List ℕ) (n : ℕ) (name : List ℕ) (s : FileChanges) →
    IsPlainRename w before (Declared path n) name s → (p q : Package) → IsCheckedPackage w before p → p.path ≡ path → IsRelaid (revision_of w s) p q →
    Renames p.layout p.names n name q.names

-- In each other package each identifier that scopes bind keeps its name.
abbrev pub OtherScopesStay : Type 0
OtherScopesStay = (w : Workspace) (before : Verdicts) (d : Declaration) (name : List ℕ) (s : FileChanges) → IsPlainRename w before d name s →
    (p q : Package) → IsCheckedPackage w before p → ((n : ℕ) → d ≡ Declared p.path n → ⊥) → IsRelaid (revision_of w s) p q →
    (u e : ℕ) → IsBoundTo p.layout p.names u e → q.names u ≡ p.names u

-- Where no identifier is lost or captured, each package is bound as it was. The packages below it have no faults afterwards.
abbrev pub PackagesAreBoundAlike : Type 0
PackagesAreBoundAlike = (w : Workspace) (before after : Verdicts) (d : Declaration) (name : List ℕ) (s : FileChanges) → IsPlainRename w before d name s →
    AreVerdicts (edited s w) after → NoneIsLost w before (revision_of w s) → (p q : Package) → IsCheckedPackage w before p →
    IsCheckedPackage (edited s w) after q → IsRelaid (revision_of w s) p q → AreMovedBelow w before after p.path → IsBoundAlike p q

-- Each identifier that scopes bind stays bound, and so does each selector of a qualified identifier.
abbrev pub ScopedNamesStay : Workspace → Verdicts → Revision → Type 0
ScopedNamesStay w known r = (place : Place) (p : Package) → IsCheckedPackage w known p → NamesStayIn w known r p place

-- Each package is bound as it was where these identifiers stay bound.
abbrev pub NamedPackagesAreBoundAlike : Type 0
NamedPackagesAreBoundAlike = (w : Workspace) (before after : Verdicts) (d : Declaration) (name : List ℕ) (s : FileChanges) → IsPlainRename w before d name s →
    AreVerdicts (edited s w) after → ScopedNamesStay w before (revision_of w s) → (p q : Package) → IsCheckedPackage w before p →
    IsCheckedPackage (edited s w) after q → IsRelaid (revision_of w s) p q → AreMovedBelow w before after p.path → IsBoundAlike p q
