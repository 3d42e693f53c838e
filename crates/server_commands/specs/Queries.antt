-- Queries that a view answers.
use Rattle.std.specs.Prelude.{◌≡◌, List, ℕ, ⊤, Some, None, Result, Ok, Err}
use Rattle.std.specs.List.{Contains}
use Rattle.std.specs.FinMap as map
use Rattle.base_files.specs.Packages.{package_paths}
use Rattle.base_files.specs.Path.{IsPath}
use Rattle.base_files.specs.declared.refusal.Refusal.{Refusal}
use Rattle.base_files.specs.declared.refusal.Refusal.TheVariants.{Memory, BadPath, NoFile, NoPackage, Pending, Faulty}
use Rattle.build_unit.specs.Builds.{unit_result}
use Rattle.build_unit.specs.declared.unit.Unit.{Unit as PackageUnit}
use Rattle.build_carry.specs.Finished.{IsFinished}
use Rattle.history_machine.specs.declared.view.View.{View}

-- the text of one file, or the refusal: the path is no path of a file, or there is no file
abbrev pub FindsFile : View → List ℕ → Result (List ℕ) Refusal → Type 0
FindsFile view path (Ok text) = IsPath 2 path × (map.get view.snapshot.files path ≡ Some text)
FindsFile view path (Err BadPath) = ¬ (IsPath 2 path)
FindsFile view path (Err NoFile) = IsPath 2 path × (map.get view.snapshot.files path ≡ None)
FindsFile view path (Err Memory) = ⊤
FindsFile view path (Err refusal) = ⊥

-- the package of this path is finished in the view, and this is its unit
abbrev pub IsUnitInView : View → List ℕ → PackageUnit → Type 0
IsUnitInView view path unit = IsFinished view.snapshot.files view.finished path unit

-- a package of the view has this path
abbrev pub IsPackagePath : View → List ℕ → Type 0
IsPackagePath view path = IsPath 1 path × Contains (package_paths view.snapshot.files) path

-- the object of a package, or the refusal: no path of a package, no package of this path, a unit that isn't finished, or the package's
-- first fault
abbrev pub FindsObject : View → List ℕ → Result (List ℕ) Refusal → Type 0
FindsObject view path (Ok text) = IsPath 1 path × ((unit : PackageUnit) × IsUnitInView view path unit × (unit_result unit ≡ Ok text))
FindsObject view path (Err BadPath) = ¬ (IsPath 1 path)
FindsObject view path (Err NoPackage) = IsPath 1 path × ¬ (Contains (package_paths view.snapshot.files) path)
FindsObject view path (Err (Pending folder)) = (folder ≡ path) × IsPackagePath view path × ((unit : PackageUnit) → IsUnitInView view path unit → ⊥)
FindsObject view path (Err (Faulty place kind)) = IsPath 1 path ×
    ((unit : PackageUnit) × IsUnitInView view path unit × (unit_result unit ≡ Err (record { place = place; kind = kind })))
FindsObject view path (Err Memory) = ⊤
FindsObject view path (Err refusal) = ⊥
