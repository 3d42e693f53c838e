-- Identifiers that are bound to package-level declarations.
use Rattle.std.specs.Prelude.{ℕ, ◌≡◌, ◌<◌, List, Some, slice_get}
use Rattle.base_files.specs.Packages.{package_paths}
use Rattle.base_files.specs.Workspace.{Workspace}
use Rattle.go_scope.specs.Bindings.{Declares, IsPackageLevel}
use Rattle.types_declared.specs.Package.{Package}
use Rattle.workspace_check.specs.Verdicts.{Verdicts, AreVerdicts}
use Rattle.refs_binding.specs.declared.declaration.Declaration.{Declaration}
use Rattle.refs_binding.specs.declared.declaration.Declaration.TheVariants.{Declared}
use Rattle.refs_binding.specs.Binding.{IsPredeclaredNumber}
use Rattle.refs_binding.specs.Indexed.{IsPackageNumbered}
use Rattle.refs_binding.specs.declared.indexed.Numbered.{Numbered}
use Rattle.refs_binding.specs.Uses.{IsCheckedPackage, HasDeclaration}
use Rattle.refactor_rename.specs.Literals.{IsUnnamedImport}
use Rattle.build_names.specs.Words.{NameChange}
use Rattle.law_objects.specs.CarriedUnits.{AreLegiblePaths, change_of_name}
use Rattle.law_objects.specs.Legible.{IsLegible}

-- The path of the package of this number is legible.
abbrev pub HasLegiblePath : Workspace → ℕ → Type 0
HasLegiblePath w number = (p : List ℕ) → slice_get (package_paths w) number ≡ Some p → IsLegible p

-- `n` is a package-level declaration of the package `p`.
pub record IsLevelNumber (p : Package) (n : ℕ) : Type 0 where
  pub within : n < p.size
  pub own : IsPredeclaredNumber n → ⊥
  pub declares : Declares p.layout p.names n
  pub level : IsPackageLevel p.layout n
  pub has_name : IsUnnamedImport p n → ⊥

-- The change gives this name to the package-level declaration `n` of the package of the number.
pub record ChangesLevel (at : Numbered) (n : ℕ) (name : List ℕ) (c : NameChange) : Type 0 where
  pub own : Package
  pub is_package : IsPackageNumbered at own
  pub is_level : IsLevelNumber own n
  pub is_change : c ≡ change_of_name own n name

-- No package of the number has a package-level declaration `n`.
abbrev pub HasNoLevelNumber : Numbered → ℕ → Type 0
HasNoLevelNumber at n = (p : Package) → IsPackageNumbered at p → IsLevelNumber p n → ⊥

-- The declaration is a package-level one, to which the change gives this name.
pub record IsLevelOf (w : Workspace) (known : Verdicts) (d : Declaration) (name : List ℕ) (c : NameChange) : Type 0 where
  pub declared_in : Package
  pub is_package : IsCheckedPackage w known declared_in
  pub number : ℕ
  pub is_level : IsLevelNumber declared_in number
  pub is_declared : d ≡ Declared declared_in.path number
  pub is_change : c ≡ change_of_name declared_in number name

-- The identifier at the byte is bound to a package-level declaration, to which the change gives this name. The paths of packages are legible.
pub record IsLevelAt (w : Workspace) (path : List ℕ) (offset : ℕ) (name : List ℕ) (c : NameChange) : Type 0 where
  pub known : Verdicts
  pub right : AreVerdicts w known
  pub declared_in : Package
  pub is_package : IsCheckedPackage w known declared_in
  pub number : ℕ
  pub is_level : IsLevelNumber declared_in number
  pub has : HasDeclaration w known path offset (Declared declared_in.path number)
  pub paths : AreLegiblePaths w
  pub is_change : c ≡ change_of_name declared_in number name
