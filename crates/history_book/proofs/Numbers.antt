-- The number of a delivery's package in a state.
use Rattle.std.proofs.Common.{◌≡◌, ℕ, Option, None, Some, MatchOption, slice_get}
use Rattle.std.specs.List.{Contains}
use Rattle.base_files.specs.Packages.{package_paths}
use Rattle.build_unit.specs.declared.built.Built.{Built}
use Rattle.build_unit.specs.declared.job.JobRecord.{JobRecord}
use Rattle.history_machine.specs.State.{State}
use Rattle.history_machine.specs.Deliveries.{IsFresh}
use Rattle.history_book.specs.Fresh.{AreOfState}

module _ (state : State) (job : JobRecord) (built : Built) where
  -- a path of no package has no inputs
  pub number_found : built.package ≡ job.package → job.number ≡ state.number → built.number ≡ state.number → (found : Option ℕ) →
      MatchOption found (Contains (package_paths state.files) job.package → ⊥) (λ number. slice_get (package_paths state.files) number ≡ Some job.package)
      → MatchOption found (IsFresh state job built → ⊥) (AreOfState state job built)
  number_found package_is job_is built_is None none = λ fresh. none fresh.job_inputs.is_package
  number_found package_is job_is built_is (Some number) at = record { same_package = package_is; job_number = job_is; built_number = built_is; there = at }
