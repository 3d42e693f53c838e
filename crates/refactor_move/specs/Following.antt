-- Whether the name of a package follows its path where the path changes. IsPackage: the packages of the workspace.
use Rattle.std.specs.Prelude.{ℕ, ◌≡◌, ◌≢◌, List, Option, MatchOption, codes}
use Rattle.types_declared.specs.Files.{package_name}
use Rattle.types_declared.specs.Package.{Package}
use Rattle.refs_binding.specs.DeclaringPlaces.{InPackage}
use Rattle.refactor_rename.specs.NewName.{IsNewName, IsReserved}
use Rattle.refactor_move.specs.Paths.{last_of}

-- The name of the package is the last element of the path `from`. The last element of the path `to` is another legal name for a package.
--
--   package shapes      // in the folder lib/shapes; moving it to lib/areas gives it the name areas
pub record Follows (IsPackage : Package → Type 0) (from to : List ℕ) : Type 0 where
  pub was : InPackage IsPackage from (λ p. package_name p.files ≡ last_of from)
  pub no_main : last_of from ≢ codes "main"
  pub form : IsNewName (last_of to)
  pub free : ¬ (IsReserved (last_of to))
  pub other : last_of to ≢ last_of from

-- The new name of the package, or `None` where it keeps its name.
abbrev pub IsFollowingName : (Package → Type 0) → (from to : List ℕ) → Option (List ℕ) → Type 0
IsFollowingName IsPackage from to name = MatchOption name (¬ (Follows IsPackage from to)) (λ n. Follows IsPackage from to × (n ≡ last_of to))
