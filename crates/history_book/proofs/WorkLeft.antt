-- When a Take hands out a Job, and which packages are finished.
use Rattle.std.proofs.Common.{◌≡◌, ◌<◌, ◌↔◌, ℕ, IsTrue, false, List, [], inl, inr, Option, Some, None, Bor, is_some, length, get_or, refl, ap}
use Rattle.std.proofs.lemmas.Bool.{false≢true}
use Rattle.std.proofs.lemmas.Option.{slice_get-get_or}
use Rattle.base_files.specs.declared.refusal.Refusal.{Refusal}
use Rattle.base_files.specs.declared.refusal.Refusal.TheVariants.{Memory, JournalFull, NoJob}
use Rattle.base_files.specs.Packages.{package_paths}
use Rattle.build_carry.specs.Finished.{AreFinishedBelow, Table}
use Rattle.build_unit.specs.Jobs.{JobsOut}
use Rattle.build_unit.specs.declared.unit.Unit.{Unit as PackageUnit}
use Rattle.workspace_graph.specs.Graphs.{OfPackage}
use Rattle.history_machine.specs.declared.event.Event.TheVariants.{Take}
use Rattle.history_machine.specs.declared.event.Reply.TheVariants.{Back, Refused, Taken}
use Rattle.history_machine.specs.Machine.{Machine}
use Rattle.history_machine.specs.State.{State}
use Rattle.history_machine.specs.Step.{Step}
use Rattle.history_machine.specs.Waiting.{FindsWaiting, IsFirstWaiting, IsWaiting}
use Rattle.history_machine.proofs.Fresh.{Holds}
use Rattle.history_book.specs.WorkLeft.{HasJob, IsFinishedAt, TakesOnlyJobs, TakesOrLacks}

-- where a Take has a Job, the journal has room for it and some package waits: so no refusal is left but the one for want of memory
pub only_lacks : (old new : Machine) (refusal : Refusal) → HasJob old → Step old Take (Refused refusal) new → refusal ≡ Memory
only_lacks old new Memory has s = refl
only_lacks old new JournalFull has s = absurd (s.1 has.0)
only_lacks old new NoJob has s = absurd (s.1.0 has.1.0 has.1.1)
only_lacks old new refusal has s = absurd s.1

pub takes_or_lacks : TakesOrLacks
takes_or_lacks old new (Taken job) has s = inr (job, refl)
takes_or_lacks old new (Refused refusal) has s = inl (ap (λ (r : Refusal). Refused r) (only_lacks old new refusal has s))
takes_or_lacks old new (Back Memory job unit) has s = absurd s.0
takes_or_lacks old new (Back JournalFull job unit) has s = absurd s.0
takes_or_lacks old new reply has s = absurd s.1

-- the Job of a Take is of a package that waited
pub takes_only_jobs : TakesOnlyJobs
takes_only_jobs old new job s = (s.0, (job.package, s.1.0.first.waiting))

-- the first package that waits is one that waits
first_waits : (state : State) (out : JobsOut) (visit n : ℕ) → n < length (package_paths state.files) →
    OfPackage state.files n (IsFirstWaiting state out visit)
    → (p : List ℕ) × IsWaiting state out visit p
first_waits state out visit n below first =
    let p : List ℕ = get_or (package_paths state.files) n [] in
    (p, (first p (slice_get-get_or (package_paths state.files) n [] below)).waiting)

-- a package waits exactly where a first one was found
pub found_waits : (state : State) (out : JobsOut) (visit : ℕ) (found : Option ℕ) → FindsWaiting state out visit found →
    IsTrue (is_some found) ↔ ((p : List ℕ) × IsWaiting state out visit p)
found_waits state out visit (Some n) first = (λ _. first_waits state out visit n first.0 first.1, λ _. refl)
found_waits state out visit None none = (λ e. absurd (false≢true e), λ some. absurd (none some.0 some.1))

-- a package is finished exactly where the table has a unit at its number
pub has_unit : (table : Table) (n : ℕ) (found : Option (Bor PackageUnit)) → Holds table n found → IsTrue (is_some found) ↔ IsFinishedAt table n
unfolding IsFinishedAt
has_unit table n (Some unit) holds = (λ _. (unit.now, holds), λ _. refl)
has_unit table n None holds = (λ e. absurd (false≢true e), λ has. absurd (holds has.0 has.1))

-- the packages at the front are finished
pub front_finished : (table : Table) (front : ℕ) → AreFinishedBelow table front → (n : ℕ) → n < front → IsFinishedAt table n
unfolding IsFinishedAt
front_finished table front finished n below = finished n below
