-- The table of finished packages of a workspace.
use Rattle.std.specs.Prelude.{◌≡◌, ℕ, ◌<◌, List, Option, Some, slice_get, slice_set}
use Rattle.base_files.specs.Workspace.{Workspace}
use Rattle.base_files.specs.Packages.{package_paths}
use Rattle.build_unit.specs.declared.unit.Unit.{Unit as PackageUnit}

-- For each package of a workspace, by its number, its unit if it is finished.
abbrev pub Table : Type 0
Table = List (Option PackageUnit)

-- The package p of the workspace w is finished in `table`, with this unit.
abbrev pub IsFinished : Workspace → Table → List ℕ → PackageUnit → Type 0
IsFinished w table p unit = (number : ℕ) × (slice_get (package_paths w) number ≡ Some p) × (slice_get table number ≡ Some (Some unit))

-- `new` is the table `old` in which the package p of the workspace w has become finished, with this unit.
abbrev pub GainsUnit : Workspace → Table → List ℕ → PackageUnit → Table → Type 0
GainsUnit w old p unit new = (number : ℕ) × (slice_get (package_paths w) number ≡ Some p) × (new ≡ slice_set old number (Some unit))

-- No package is finished in the table.
abbrev pub HasNoUnit : Table → Type 0
HasNoUnit table = (i : ℕ) (unit : PackageUnit) → slice_get table i ≡ Some (Some unit) → ⊥

-- Each package whose number is less than `front` is finished in the table.
abbrev pub AreFinishedBelow : Table → ℕ → Type 0
AreFinishedBelow table front = (i : ℕ) → i < front → (unit : PackageUnit) × (slice_get table i ≡ Some (Some unit))
