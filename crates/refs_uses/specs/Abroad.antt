-- The uses of another package's declaration, by the qualified identifiers of a package.
use Rattle.std.specs.Prelude.{ℕ, ◌≡◌, List, Option, Contains, MatchOption, slice_get}
use Rattle.std.specs.Borrow.{Bor}
use Rattle.base_files.specs.Workspace.{Workspace}
use Rattle.base_files.specs.declared.place.Place.{Place}
use Rattle.go_ast.specs.SourceFile.{SourceFile}
use Rattle.go_scope.specs.declared.model.Position.{Position}
use Rattle.types_declared.specs.Package.{Package, spelled_at}
use Rattle.types_info.specs.declared.lists.Qualified.{Qualified}
use Rattle.types_info.specs.Lists.{list_path, IsListedUnder}
use Rattle.types_info.specs.QualifiedIdentifiers.{IsQualifiedByPath}
use Rattle.workspace_check.specs.Verdicts.{Verdicts}
use Rattle.refs_binding.specs.declared.declaration.Declaration.{Declaration}
use Rattle.refs_binding.specs.declared.declaration.Declaration.TheVariants.{Declared}
use Rattle.refs_binding.specs.Identifiers.{NameBegins}
use Rattle.refs_binding.specs.Steps.{UsesIn}
use Rattle.refs_binding.specs.Workspaces.{IsPackageAt}

-- The token at a position is an identifier with this name and begins at the place.
abbrev pub IsSpelledAt : List SourceFile → (name : List ℕ) → Position → Place → Type 0
IsSpelledAt files name at place =
    (spelled_at (slice_get files at.file) at.index ≡ name) × NameBegins (slice_get files at.file) at.index place.path place.offset

-- The token at one of these positions is an identifier with this name and begins at the place.
pub record IsSpelledAmong (files : List SourceFile) (name : List ℕ) (places : List Position) (place : Place) : Type 0 where
  pub at : Position
  pub among : Contains places at
  pub is_spelled : IsSpelledAt files name at place

-- The list is that of `path`, and the token at one of its positions is an identifier with this name and begins at the place.
abbrev pub IsSpelledUnder : List SourceFile → (name path : List ℕ) → Qualified → Place → Type 0
IsSpelledUnder files name path list place = (list_path list ≡ path) × IsSpelledAmong files name list.places.items place

-- A token that is listed under `path` is an identifier with this name and begins at the place.
pub record IsSpelledListed (files : List SourceFile) (name path : List ℕ) (lists : List Qualified) (place : Place) : Type 0 where
  pub at : Position
  pub listed : IsListedUnder lists path at
  pub is_spelled : IsSpelledAt files name at place

-- An identifier of the package `number` begins at the place. It is `N` in a qualified identifier `q.N`, where `q` names the package of
-- `path` and `N` is `name`.
pub record IsQualifiedUseOf (w : Workspace) (known : Verdicts) (number : ℕ) (path name : List ℕ) (place : Place) : Type 0 where
  pub used_in : Package
  pub is_package : IsPackageAt w known number used_in
  pub is_use : UsesIn used_in (λ u. IsQualifiedByPath used_in u path × (used_in.names u ≡ name)) place

-- The package `number` has another path than `path`.
abbrev pub IsAbroad : Workspace → Verdicts → (number : ℕ) → (path : List ℕ) → Type 0
IsAbroad w known number path = (p : Package) → IsPackageAt w known number p → p.path ≡ path → ⊥

-- `path` is that of the package that declares `d` in a scope, and another package than `number`.
pub record IsDeclaredAbroad (w : Workspace) (known : Verdicts) (number : ℕ) (d : Declaration) (path : List ℕ) : Type 0 where
  pub declared : ℕ
  pub is_declaration : d ≡ Declared path declared
  pub abroad : IsAbroad w known number path

-- A path that was found is that of the package that declares `d` in a scope, and another package than `number`.
abbrev pub IsPathAbroad : Workspace → Verdicts → (number : ℕ) → Declaration → Option (Bor (List ℕ)) → Type 0
IsPathAbroad w known number d found = MatchOption found (Unit {0}) (λ path. IsDeclaredAbroad w known number d path.now)
