-- A plain rename of a declaration of scopes, package-level or not: which names stay.
use Rattle.std.specs.Prelude.{ℕ, ◌≡◌, ◌<◌, ◌↔◌, List, Contains}
use Rattle.base_files.specs.Workspace.{Workspace}
use Rattle.base_files.specs.declared.place.Place.{Place}
use Rattle.base_edits.specs.EditSet.{FileChanges}
use Rattle.base_edits.specs.RevisionsOfEdits.{revision_of}
use Rattle.go_scope.specs.declared.model.Position.{Position}
use Rattle.go_scope.specs.Table.{LiesAt}
use Rattle.types_declared.specs.Definitions.{PlacedField, IsFieldOf, IsMethodOf}
use Rattle.types_declared.specs.Package.{Package, PlacedFunction, spelled}
use Rattle.workspace_check.specs.Verdicts.{Verdicts}
use Rattle.refs_binding.specs.declared.declaration.Declaration.{Declaration}
use Rattle.refs_binding.specs.declared.declaration.Declaration.TheVariants.{Declared}
use Rattle.refs_binding.specs.Uses.{IsCheckedPackage, IsBoundToDeclaration}
use Rattle.refactor_conflict.specs.NamesAfter.{IsFieldAfter, IsMethodAfter}
use Rattle.law_renamed_workspaces.specs.Layouts.{IsToken}
use Rattle.law_renamed_workspaces.specs.Renames.{IsPlainRename}

-- No identifier at the position is bound to the declaration.
abbrev pub IsApartFrom : Workspace → Verdicts → Declaration → Package → Position → Type 0
IsApartFrom w known d x at = (u : ℕ) → u < x.size → LiesAt x.layout at u → IsBoundToDeclaration w known x u d → ⊥

-- A plain rename leaves each name at which no identifier is bound to a renamed declaration.
abbrev pub NamesApartStay : Type 0
NamesApartStay = (w : Workspace) (known : Verdicts) (d : Declaration) (name : List ℕ) (s : FileChanges) (h : IsPlainRename w known d name s) →
    (x : Package) → IsCheckedPackage w known x → (at : Position) (place : Place) → IsToken x at place →
    ((e : Declaration) → Contains h.rename.set e → IsApartFrom w known e x at) →
    (revision_of w s).called place (spelled x at.file at.index) ≡ spelled x at.file at.index

-- The statement holds of each plain rename of a declaration of scopes.
abbrev pub OfScopeRenames : (Workspace → Verdicts → FileChanges → Type 0) → Type 0
OfScopeRenames K = (w : Workspace) (known : Verdicts) (path : List ℕ) (n : ℕ) (name : List ℕ) (s : FileChanges) →
    IsPlainRename w known (Declared path n) name s → K w known s

-- All fields and methods of the workspace have the names that they had.
abbrev pub FieldNamesStay : Type 0
FieldNamesStay = OfScopeRenames (λ w known s. (x : Package) → IsCheckedPackage w known x → (definition : ℕ) (name : List ℕ) (rank : ℕ) →
    IsFieldAfter (revision_of w s) x definition name rank ↔ ((f : PlacedField) × IsFieldOf x definition name rank f))

abbrev pub MethodNamesStay : Type 0
MethodNamesStay = OfScopeRenames (λ w known s. (x : Package) → IsCheckedPackage w known x → (definition : ℕ) (name : List ℕ) (rank : ℕ) →
    IsMethodAfter (revision_of w s) x definition name rank ↔ ((f : PlacedFunction) × IsMethodOf x definition name rank f))
