-- Deliveries that are known to be of the current files.
use Rattle.base_files.specs.Workspace.{Workspace}
use Rattle.build_unit.specs.Inputs.{AreInputs}
use Rattle.build_unit.specs.declared.built.Built.{Built}
use Rattle.build_unit.specs.declared.job.JobRecord.{JobRecord}

-- the inputs of the Job, and those of what was built, are the texts of the closure of the Job's package in these files
pub record HasCurrentInputs (files : Workspace) (job : JobRecord) (built : Built) : Type 0 where
  pub job_inputs : AreInputs files job.package job.inputs
  pub built_inputs : AreInputs files job.package built.inputs
