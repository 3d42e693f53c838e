-- What the build of a Job answers, and the result that a unit stands for.
use Rattle.std.specs.Prelude.{◌≡◌, ℕ, List, Result, Ok, Err}
use Rattle.workspace_check.specs.declared.fault.FileFault.{FileFault}
use Rattle.build_unit.specs.declared.built.Built.{Built}
use Rattle.build_unit.specs.declared.job.JobRecord.{JobRecord}
use Rattle.build_unit.specs.declared.unit.Unit.{Unit as PackageUnit}
use Rattle.build_unit.specs.declared.unit.Compiled.TheVariants.{Faults, Done}
use Rattle.build_unit.specs.Units.{IsUnitIn}

-- `built` is an answer to the Job: it has the Job's number, package and inputs, and the unit of this package in these inputs.
pub record IsBuiltOf (job : JobRecord) (built : Built) : Type 0 where
  pub number : built.number ≡ job.number
  pub of_package : built.package ≡ job.package
  pub inputs : built.inputs ≡ job.inputs
  pub unit : IsUnitIn job.inputs job.package built.unit

-- The object of a unit, or its first fault.
abbrev pub unit_result : PackageUnit → Result (List ℕ) FileFault
unit_result (Faults first others) = Err first
unit_result (Done export_data object) = Ok object
