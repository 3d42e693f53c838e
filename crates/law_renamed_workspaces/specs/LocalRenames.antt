-- A plain rename of a declaration that is not package-level: which names change, and which stay.
use Rattle.std.specs.Prelude.{ℕ, ◌≡◌, ◌<◌, List}
use Rattle.base_files.specs.Workspace.{Workspace}
use Rattle.base_files.specs.declared.place.Place.{Place}
use Rattle.base_edits.specs.EditSet.{FileChanges}
use Rattle.base_edits.specs.RevisionsOfEdits.{revision_of}
use Rattle.go_scope.specs.declared.model.Position.{Position}
use Rattle.go_scope.specs.Bindings as scopes
use Rattle.go_scope.specs.Table.{LiesAt}
use Rattle.types_declared.specs.Package.{Package, spelled}
use Rattle.workspace_check.specs.Verdicts.{Verdicts}
use Rattle.refs_binding.specs.declared.declaration.Declaration.TheVariants.{Declared}
use Rattle.refs_binding.specs.Uses.{IsCheckedPackage, IsBoundToDeclaration}
use Rattle.law_renamed_workspaces.specs.Layouts.{IsToken}
use Rattle.law_renamed_workspaces.specs.Renames.{IsPlainRename}

-- A plain rename of a declaration of the package `p` that is not package-level: a local variable, parameter, receiver, or an import's name.
pub record IsLocalRename (w : Workspace) (known : Verdicts) (p : Package) (n : ℕ) (name : List ℕ) (s : FileChanges) : Type 0 where
  pub rename : IsPlainRename w known (Declared p.path n) name s
  pub is_package : IsCheckedPackage w known p
  pub local : scopes.IsPackageLevel p.layout n → ⊥

-- The statement holds of each such rename.
abbrev pub OfLocalRenames : ((w : Workspace) → Verdicts → Package → ℕ → FileChanges → Type 0) → Type 0
OfLocalRenames K = (w : Workspace) (known : Verdicts) (p : Package) (n : ℕ) (name : List ℕ) (s : FileChanges) → IsLocalRename w known p n name s →
    K w known p n s

-- Only the scopes of its own package bind identifiers to the declaration.
abbrev pub OwnScopesAloneBind : Type 0
OwnScopesAloneBind = OfLocalRenames (λ w known p n s. (x : Package) → IsCheckedPackage w known x → (u : ℕ) →
    IsBoundToDeclaration w known x u (Declared p.path n) →
    (x ≡ p) × scopes.IsBoundTo p.layout p.names u n)

-- The identifier at the position is none of those.
abbrev pub IsApart : (p : Package) → (n : ℕ) → Package → Position → Type 0
IsApart p n x at = (u : ℕ) → u < x.size → LiesAt x.layout at u → x ≡ p → scopes.IsBoundTo p.layout p.names u n → ⊥

-- Every other name of the workspace stays.
abbrev pub OtherNamesStay : Type 0
OtherNamesStay = OfLocalRenames (λ w known p n s. (x : Package) → IsCheckedPackage w known x → (at : Position) (place : Place) → IsToken x at place →
    IsApart p n x at → (revision_of w s).called place (spelled x at.file at.index) ≡ spelled x at.file at.index)
