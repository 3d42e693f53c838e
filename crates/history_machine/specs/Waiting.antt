-- The package that the next Job is of, and that Job.
use Rattle.std.specs.Prelude.{◌≡◌, ℕ, ◌<◌, List, length, Option, MatchOption, Some, slice_get}
use Rattle.std.specs.List.{Contains}
use Rattle.base_files.specs.Packages.{package_paths}
use Rattle.workspace_graph.specs.Graphs.{OfPackage}
use Rattle.build_unit.specs.Inputs.{AreInputs}
use Rattle.build_unit.specs.Jobs.{JobsOut, IsTakenInVisit}
use Rattle.build_unit.specs.declared.job.JobRecord.{JobRecord}
use Rattle.build_unit.specs.declared.unit.Unit.{Unit as PackageUnit}
use Rattle.build_carry.specs.Finished.{IsFinished}
use Rattle.history_machine.specs.State.{State}
use Rattle.history_machine.specs.Machine.{Content}

-- the package p of the state is unfinished, and no Job of it is out that was taken in this visit
pub record IsWaiting (state : State) (out : JobsOut) (visit : ℕ) (p : List ℕ) : Type 0 where
  pub is_package : Contains (package_paths state.files) p
  pub unfinished : (unit : PackageUnit) → IsFinished state.files state.finished p unit → ⊥
  pub untaken : IsTakenInVisit out visit p → ⊥

-- p is the first package that waits, by the order of paths
pub record IsFirstWaiting (state : State) (out : JobsOut) (visit : ℕ) (p : List ℕ) : Type 0 where
  pub waiting : IsWaiting state out visit p
  pub number : ℕ
  pub at : slice_get (package_paths state.files) number ≡ Some p
  pub first : (i : ℕ) (q : List ℕ) → i < number → slice_get (package_paths state.files) i ≡ Some q → IsWaiting state out visit q → ⊥

-- the package of the current state waits to be built
abbrev pub WaitsIn : Content → List ℕ → Type 0
WaitsIn m = IsWaiting m.current m.out m.visit

-- the Job that a Take hands out: it has the next ticket, and is of the first package that waits, with its inputs
pub record IsNextJob (m : Content) (job : JobRecord) : Type 0 where
  pub ticket : job.ticket ≡ m.out.ticket
  pub number : job.number ≡ m.current.number
  pub visit : job.visit ≡ m.visit
  pub first : IsFirstWaiting m.current m.out m.visit job.package
  pub inputs : AreInputs m.current.files job.package job.inputs

-- the number of the first package that waits, or none where no package waits
abbrev pub FindsWaiting : State → JobsOut → ℕ → Option ℕ → Type 0
FindsWaiting state out visit found =
    MatchOption found ((p : List ℕ) → IsWaiting state out visit p → ⊥)
    (λ number. (number < length (package_paths state.files)) × OfPackage state.files number (IsFirstWaiting state out visit))
