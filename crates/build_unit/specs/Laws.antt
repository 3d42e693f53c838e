-- The laws of units, as statements.
use Rattle.std.specs.Prelude.{ℕ, ◌≡◌, List, Contains}
use Rattle.base_files.specs.Workspace.{Workspace}
use Rattle.base_files.specs.Packages.{package_paths}
use Rattle.workspace_check.specs.Closures.{HasSameClosure}
use Rattle.build_unit.specs.declared.unit.Unit.{Unit as PackageUnit}
use Rattle.build_unit.specs.Units.{UnitValue, IsUnitValue, IsUnitOf}

-- A package has one unit in two workspaces where its closure has the same texts in both.
abbrev pub AreLocalUnits : Type 0
AreLocalUnits = (w x : Workspace) (p : List ℕ) (unit : PackageUnit) → Contains (package_paths w) p → HasSameClosure w x p → IsUnitOf w p unit →
    IsUnitOf x p unit

-- A package has at most one unit in a workspace, by the faults, or the export data and object, that it stands for.
abbrev pub HaveOneUnit : Type 0
HaveOneUnit = (w : Workspace) (p : List ℕ) (u v : UnitValue) → IsUnitValue w p u → IsUnitValue w p v → u ≡ v
