-- The marks on packages while they are passed in order, each after those that it builds on.
use Rattle.std.specs.Prelude.{ℕ, ◌≡◌, ◌⊎◌, List, Some, length, slice_get}
use Rattle.base_files.specs.Workspace.{Workspace}
use Rattle.base_files.specs.Packages.{package_paths}
use Rattle.workspace_graph.specs.Reaching.{AreImportersMarked}
use Rattle.workspace_graph.specs.Search.{IsMarked}
use Rattle.workspace_check.specs.declared.reuse.PassedPackages.{PassedPackages}
use Rattle.workspace_check.specs.Verdicts.{BuildsOn}

-- Each package that imports a `affected` package is `affected`. There is a place for each package.
pub record AffectsImporters (w : Workspace) (s : PassedPackages) : Type 0 where
  pub size : length s.marks.items ≡ length (package_paths w)
  pub all : length s.affected.items ≡ length (package_paths w)
  pub above : AreImportersMarked w s.affected.items

-- The package of a number is marked or `affected`.
abbrev pub IsPassed : PassedPackages → ℕ → Type 0
IsPassed s n = IsMarked s.marks.items n ⊎ IsMarked s.affected.items n

-- The package `number` was passed, and those that were passed before still are.
pub record PassesPackage (w : Workspace) (number : ℕ) (old new : PassedPackages) : Type 0 where
  pub here : IsPassed new number
  pub kept : (n : ℕ) → IsPassed old n → IsPassed new n

-- Each package that `p` builds on is marked, or `p` (with number `number`) is `affected`.
abbrev pub ArePassedBelow : Workspace → List ℕ → ℕ → PassedPackages → Type 0
ArePassedBelow w p number s = (n : ℕ) (q : List ℕ) → slice_get (package_paths w) n ≡ Some q → BuildsOn w p q →
    IsMarked s.marks.items n ⊎ IsMarked s.affected.items number
