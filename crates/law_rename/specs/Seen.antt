-- The declarations of a package that other packages see.
use Rattle.std.specs.Prelude.{ℕ, ◌≡◌, true, List}
use Rattle.go_scope.specs.Bindings.{Layout, Names, Counts, IsPackageLevel}
use Rattle.types_declared.specs.Laid.{is_exported}

-- Other packages see the declaration `e` under `name`: it is a package-level declaration that counts, and has this name, which is exported.
pub record IsExportedAs (l : Layout) (names : Names) (name : List ℕ) (e : ℕ) : Type 0 where
  pub package_level : IsPackageLevel l e
  pub counts : Counts l names e
  pub named : names e ≡ name
  pub exported : is_exported name ≡ true
