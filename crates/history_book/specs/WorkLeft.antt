-- What is left to be built: when a Take hands out a Job, and when a wait for all packages is over.
use Rattle.std.specs.Prelude.{◌≡◌, ◌<◌, ◌⊎◌, ℕ, List, length, slice_get, Option, Some, None, Result, Ok, Err}
use Rattle.base_files.specs.Packages.{package_paths}
use Rattle.base_files.specs.declared.refusal.Refusal.{Refusal}
use Rattle.base_files.specs.declared.refusal.Refusal.TheVariants.{JournalFull, Memory}
use Rattle.build_carry.specs.Finished.{Table}
use Rattle.build_unit.specs.declared.job.JobRecord.{JobRecord}
use Rattle.build_unit.specs.declared.unit.Unit.{Unit as PackageUnit}
use Rattle.history_machine.specs.declared.event.Event.TheVariants.{Take}
use Rattle.history_machine.specs.declared.event.Reply.{Reply}
use Rattle.history_machine.specs.declared.event.Reply.TheVariants.{Refused, Taken}
use Rattle.history_machine.specs.Machine.{Machine, content}
use Rattle.history_machine.specs.State.{State}
use Rattle.history_machine.specs.Step.{HasRoom, Step}
use Rattle.history_machine.specs.Waiting.{WaitsIn}

-- A Take hands out a Job, unless memory is wanting: the journal has room for it, and a package waits to be built.
abbrev pub HasJob : Machine → Type 0
HasJob m = HasRoom m Take × ((p : List ℕ) × WaitsIn (content m) p)

-- the package of this number is finished
unfoldable pub IsFinishedAt : Table → ℕ → Type 0
IsFinishedAt table number = (unit : PackageUnit) × (slice_get table number ≡ Some (Some unit))

-- each package of the state is finished
abbrev pub AreAllFinished : State → Type 0
AreAllFinished state = (number : ℕ) → number < length (package_paths state.files) → IsFinishedAt state.finished number

-- not each package is finished, and none can be built any more: the journal has no room for a Take, and no Job is out
abbrev pub IsStuck : Machine → Type 0
IsStuck m = ¬ (AreAllFinished m.current) × ¬ (HasRoom m Take) × (length m.out.jobs ≡ 0)

-- how a wait for all packages ends, or none where it goes on
abbrev pub IsWaitEnd : Machine → Option (Result (Unit {0}) Refusal) → Type 0
IsWaitEnd m (Some (Ok all)) = AreAllFinished m.current
IsWaitEnd m (Some (Err refusal)) = (refusal ≡ JournalFull) × IsStuck m
IsWaitEnd m None = ¬ (AreAllFinished m.current) × ¬ (IsStuck m)

-- where a Take has a Job, it is refused only for want of memory
abbrev pub TakesOrLacks : Type 0
TakesOrLacks = (old new : Machine) (reply : Reply)
    → HasJob old → Step old Take reply new
    → (reply ≡ Refused Memory) ⊎ ((job : JobRecord) × (reply ≡ Taken job))

-- a Take that hands out a Job had one
abbrev pub TakesOnlyJobs : Type 0
TakesOnlyJobs = (old new : Machine) (job : JobRecord)
    → Step old Take (Taken job) new
    → HasJob old
