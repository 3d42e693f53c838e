-- The package of a state that a delivery is of.
use Rattle.std.specs.Prelude.{◌≡◌, ℕ, MatchOption, Option, Some, slice_get}
use Rattle.base_files.specs.Packages.{package_paths}
use Rattle.build_unit.specs.declared.built.Built.{Built}
use Rattle.build_unit.specs.declared.job.JobRecord.{JobRecord}
use Rattle.history_machine.specs.State.{State}
use Rattle.history_machine.specs.Deliveries.{IsFresh}

-- What was built is of the Job's package, which has this number in the state. The Job and what was built have the state's number. Nothing
-- is said of their inputs.
pub record AreOfState (state : State) (job : JobRecord) (built : Built) (number : ℕ) : Type 0 where
  pub same_package : built.package ≡ job.package
  pub job_number : job.number ≡ state.number
  pub built_number : built.number ≡ state.number
  pub there : slice_get (package_paths state.files) number ≡ Some job.package

-- the number of the Job's package where the delivery is of the state, else none
abbrev pub FindsFresh : State → JobRecord → Built → Option ℕ → Type 0
FindsFresh state job built found =
    MatchOption found (¬ (IsFresh state job built)) (λ number. IsFresh state job built × (slice_get (package_paths state.files) number ≡ Some job.package))
