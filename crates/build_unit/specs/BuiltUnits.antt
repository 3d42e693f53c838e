-- A unit with the inputs that it was built from.
use Rattle.std.specs.Prelude.{ℕ, List}
use Rattle.base_files.specs.Workspace.{Workspace}
use Rattle.build_unit.specs.declared.unit.Unit.{Unit as PackageUnit}

-- A unit of the package `package`, built from `inputs`. `number` is that of the state whose texts the inputs are.
pub record BuiltUnit : Type 0 where
  pub number : ℕ
  pub «package» : List ℕ
  pub inputs : Workspace
  pub unit : PackageUnit
