-- Under a plain rename of a declaration that is not package-level, other packages keep all names, and so all bindings of their scopes.
use Rattle.std.specs.Prelude.{ℕ, ◌≡◌, ◌↔◌, List}
use Rattle.base_files.specs.declared.place.Place.{Place}
use Rattle.base_edits.specs.RevisionsOfEdits.{revision_of}
use Rattle.types_declared.specs.Package.{Package}
use Rattle.types_check.specs.Exports.{DoesExport}
use Rattle.types_info.specs.QualifiedIdentifiers.{IsQualifiedByPath}
use Rattle.refs_binding.specs.Binding.{BindsByScope}
use Rattle.refs_binding.specs.declared.declaration.Declaration.{Declaration}
use Rattle.refs_binding.specs.Identifiers.{BeginsAt}
use Rattle.refs_binding.specs.Uses.{IsCheckedPackage}
use Rattle.law_renamed_workspaces.specs.Layouts.{IsRelaid}
use Rattle.law_renamed_workspaces.specs.LocalRenames.{OfLocalRenames}

-- The package `q` has the names of `x`. Its scopes bind the same identifiers to the same declarations, and it exports the same.
pub record KeepsScopes (x q : Package) : Type 0 where
  pub names : (u : ℕ) → q.names u ≡ x.names u
  pub bound : (u : ℕ) (d : Declaration) → BindsByScope q u d ↔ BindsByScope x u d
  pub exports : (d : ℕ) → DoesExport q d ↔ DoesExport x d

-- That is so of each package but that of the declaration.
abbrev pub OtherPackagesKeepScopes : Type 0
OtherPackagesKeepScopes = OfLocalRenames (λ w known p n s. (x q : Package) → IsCheckedPackage w known x → (x ≡ p → ⊥) → IsRelaid (revision_of w s) x q →
    KeepsScopes x q)

-- The package `q` exports the declarations that `x` exports, under the same names.
pub record KeepsExports (x q : Package) : Type 0 where
  pub exports : (d : ℕ) → DoesExport q d ↔ DoesExport x d
  pub named : (d : ℕ) → DoesExport x d → q.names d ≡ x.names d

-- That is so of each package, that of the declaration too.
abbrev pub ExportsStay : Type 0
ExportsStay = OfLocalRenames (λ w known p n s. (x q : Package) → IsCheckedPackage w known x → IsRelaid (revision_of w s) x q → KeepsExports x q)

-- In every package the selectors of qualified identifiers keep their names.
abbrev pub SelectorsKeepNames : Type 0
SelectorsKeepNames = OfLocalRenames (λ w known p n s. (x : Package) → IsCheckedPackage w known x → (u : ℕ) (place : Place) →
    BeginsAt x place.path place.offset u → (path : List ℕ) → IsQualifiedByPath x u path → (revision_of w s).called place (x.names u) ≡ x.names u)
