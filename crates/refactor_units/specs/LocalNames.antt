-- Identifiers that are bound to local declarations.
use Rattle.std.specs.Prelude.{ℕ, ◌≡◌, ◌<◌, List}
use Rattle.base_files.specs.Workspace.{Workspace}
use Rattle.go_scope.specs.Bindings.{Declares, IsPackageLevel}
use Rattle.types_declared.specs.Package.{Package}
use Rattle.workspace_check.specs.Verdicts.{Verdicts, AreVerdicts}
use Rattle.refs_binding.specs.declared.declaration.Declaration.{Declaration}
use Rattle.refs_binding.specs.declared.declaration.Declaration.TheVariants.{Declared}
use Rattle.refs_binding.specs.Binding.{IsPredeclaredNumber}
use Rattle.refs_binding.specs.Uses.{IsFilePackage, HasDeclaration}
use Rattle.refactor_rename.specs.Literals.{IsUnnamedImport}

-- `n` declares in the package `p`. It is neither predeclared nor package-level, and is no import without a name.
pub record IsLocalNumber (p : Package) (n : ℕ) : Type 0 where
  pub within : n < p.size
  pub own : IsPredeclaredNumber n → ⊥
  pub declares : Declares p.layout p.names n
  pub inner : IsPackageLevel p.layout n → ⊥
  pub has_name : IsUnnamedImport p n → ⊥

-- The declaration is such a one of the package `p`.
abbrev pub IsLocalOf : Package → Declaration → Type 0
IsLocalOf p d = (n : ℕ) × (d ≡ Declared p.path n) × IsLocalNumber p n

-- The identifier at the byte is bound to such a declaration, of the package of the file.
pub record IsLocalAt (w : Workspace) (path : List ℕ) (offset : ℕ) : Type 0 where
  pub known : Verdicts
  pub right : AreVerdicts w known
  pub declared_in : Package
  pub is_package : IsFilePackage w known path declared_in
  pub number : ℕ
  pub is_local : IsLocalNumber declared_in number
  pub has : HasDeclaration w known path offset (Declared declared_in.path number)
