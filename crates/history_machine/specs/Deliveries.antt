-- When a delivery may enter the current state's table.
use Rattle.std.specs.Prelude.{◌≡◌, List, ℕ}
use Rattle.build_unit.specs.Inputs.{AreInputs}
use Rattle.build_unit.specs.declared.built.Built.{Built}
use Rattle.build_unit.specs.declared.job.JobRecord.{JobRecord}
use Rattle.build_unit.specs.declared.unit.Unit.{Unit as PackageUnit}
use Rattle.build_unit.specs.Units.{IsUnitIn}
use Rattle.build_carry.specs.Finished.{IsFinished}
use Rattle.history_machine.specs.State.{State}

-- The delivery is of the state: what was built is of the Job's package, and both have the state's number. The inputs of both are the texts
-- of the package's closure in the state.
pub record IsFresh (state : State) (job : JobRecord) (built : Built) : Type 0 where
  pub same_package : built.package ≡ job.package
  pub job_number : job.number ≡ state.number
  pub built_number : built.number ≡ state.number
  pub job_inputs : AreInputs state.files job.package job.inputs
  pub built_inputs : AreInputs state.files job.package built.inputs

-- what was built is the unit of its package in its inputs
abbrev pub IsRightlyBuilt : Built → Type 0
IsRightlyBuilt built = IsUnitIn built.inputs built.package built.unit

-- the package p of the state is finished
abbrev pub HasUnit : State → List ℕ → Type 0
HasUnit state p = (unit : PackageUnit) × IsFinished state.files state.finished p unit
