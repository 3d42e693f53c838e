-- The names of fields and methods after a plain rename, by their old names: one that is renamed has the new name, and each other one keeps
-- its name.
use Rattle.std.specs.Prelude.{ℕ, ◌≡◌, ◌⊎◌, ◌↔◌, List, Some, Contains, slice_get}
use Rattle.base_files.specs.Workspace.{Workspace}
use Rattle.base_files.specs.declared.place.Place.{Place}
use Rattle.base_edits.specs.EditSet.{FileChanges}
use Rattle.base_edits.specs.RevisionsOfEdits.{revision_of}
use Rattle.types_declared.specs.Definitions.{PlacedField, package_fields, IsFieldOf, IsMethodOf}
use Rattle.types_declared.specs.Package.{Package, PlacedFunction, package_functions, symbol_in, spelled}
use Rattle.types_members.specs.MethodsView.{IsOwner}
use Rattle.workspace_check.specs.Verdicts.{Verdicts}
use Rattle.refs_binding.specs.declared.declaration.Declaration.{Declaration}
use Rattle.refs_binding.specs.declared.declaration.Declaration.TheVariants.{Field, Method}
use Rattle.refs_binding.specs.Binding.{BindsByMember, DeclaresMember}
use Rattle.refs_binding.specs.DeclaredNames.{HasDeclaredName}
use Rattle.refs_binding.specs.Identifiers.{BeginsAt}
use Rattle.refs_binding.specs.Uses.{IsCheckedPackage}
use Rattle.refactor_conflict.specs.NamesAfter.{IsFieldAfter, IsMethodAfter}
pub use Rattle.law_renamed_workspaces.specs.Renames.{IsMember}
use Rattle.law_renamed_workspaces.specs.Renames.{IsPlainRename}

-- The statement holds of each plain rename, of a declaration `d` and what is renamed with it to `name`, by the edits `s`.
abbrev pub OfPlainRenames : ((w : Workspace) → Verdicts → Declaration → (set : List Declaration) → List ℕ → FileChanges → Type 0) → Type 0
OfPlainRenames K = (w : Workspace) (known : Verdicts) (d : Declaration) (name : List ℕ) (s : FileChanges) (h : IsPlainRename w known d name s) →
    K w known d h.rename.set name s

-- The member `e`, whose name was `old`, is called `new` after those of the set are renamed to `name`.
pub data IsCalledAfter (set : List Declaration) (name : List ℕ) (e : Declaration) (old new : List ℕ) : Type 0 where
  gets_name : Contains set e → new ≡ name → IsCalledAfter set name e old new
  keeps_name : (Contains set e → ⊥) → new ≡ old → IsCalledAfter set name e old new

-- The identifier `u` is spelled so.
abbrev pub spelled_there : Package → ℕ → List ℕ
spelled_there x u = spelled x (x.layout.place u).file (x.layout.place u).index

-- The identifier `u` of the package is a use of the member, or declares it.
abbrev pub NamesMember : Package → ℕ → Declaration → Type 0
NamesMember x u e = BindsByMember x u e ⊎ DeclaresMember x u e

-- An identifier that names a member is spelled afterwards as this member is called.
abbrev pub MembersAreCalled : Type 0
MembersAreCalled = OfPlainRenames (λ w known d set name s. (x : Package) → IsCheckedPackage w known x → (u : ℕ) (place : Place) →
    BeginsAt x place.path place.offset u → (e : Declaration) → NamesMember x u e →
    IsCalledAfter set name e (spelled_there x u) ((revision_of w s).called place (spelled_there x u)))

-- The field of this rank is in the struct that the type definition writes, and is called `other` after those of the set are renamed.
pub record IsFieldCalled (set : List Declaration) (name : List ℕ) (x : Package) (definition : ℕ) (other : List ℕ) (rank : ℕ) : Type 0 where
  pub field : PlacedField
  pub has_rank : slice_get (package_fields x) rank ≡ Some field
  pub of_struct : field.definition ≡ definition
  pub called : IsCalledAfter set name (Field (symbol_in x rank)) (spelled x field.file field.name) other

-- The function of this rank is a method of the type definition, and is called `other` after those of the set are renamed.
pub record IsMethodCalled (set : List Declaration) (name : List ℕ) (x : Package) (definition : ℕ) (other : List ℕ) (rank : ℕ) : Type 0 where
  pub method : PlacedFunction
  pub has_rank : slice_get (package_functions x) rank ≡ Some method
  pub of_type : IsOwner x method definition
  pub called : IsCalledAfter set name (Method (symbol_in x rank)) (spelled x method.file method.function.name) other

-- The fields and methods that have a name after the rename.
abbrev pub FieldNamesAfter : Type 0
FieldNamesAfter = OfPlainRenames (λ w known d set name s. (x : Package) → IsCheckedPackage w known x → (definition : ℕ) (other : List ℕ) (rank : ℕ) →
    IsFieldAfter (revision_of w s) x definition other rank ↔ IsFieldCalled set name x definition other rank)

abbrev pub MethodNamesAfter : Type 0
MethodNamesAfter = OfPlainRenames (λ w known d set name s. (x : Package) → IsCheckedPackage w known x → (definition : ℕ) (other : List ℕ) (rank : ℕ) →
    IsMethodAfter (revision_of w s) x definition other rank ↔ IsMethodCalled set name x definition other rank)

-- So where `other` is neither the old name nor the new one, just those have it that had it.
abbrev pub OtherFieldNamesStay : Type 0
OtherFieldNamesStay = OfPlainRenames (λ w known d set name s. (old other : List ℕ) → HasDeclaredName (IsCheckedPackage w known) d old → (other ≡ old → ⊥) →
    (other ≡ name → ⊥) → (x : Package) → IsCheckedPackage w known x → (definition rank : ℕ) →
    IsFieldAfter (revision_of w s) x definition other rank ↔ ((f : PlacedField) × IsFieldOf x definition other rank f))

abbrev pub OtherMethodNamesStay : Type 0
OtherMethodNamesStay = OfPlainRenames (λ w known d set name s. (old other : List ℕ) → HasDeclaredName (IsCheckedPackage w known) d old → (other ≡ old → ⊥) →
    (other ≡ name → ⊥) → (x : Package) → IsCheckedPackage w known x → (definition rank : ℕ) →
    IsMethodAfter (revision_of w s) x definition other rank ↔ ((f : PlacedFunction) × IsMethodOf x definition other rank f))
