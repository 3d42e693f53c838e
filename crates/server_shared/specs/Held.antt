-- How many Jobs a seat has in hand, by the receipts of its calls.
use Rattle.std.specs.Prelude.{◌≡◌, ◌⊎◌, ℕ, ◌+◌, ◌-◌, ◌<◌, ⊤, List, [], ◌∷◌, ◌++◌}
use Rattle.history_machine.specs.declared.entry.EntryKind.{EntryKind}
use Rattle.history_machine.specs.declared.entry.EntryKind.TheVariants as kind
use Rattle.history_machine.specs.declared.entry.Reason.TheVariants.{NoJob}
use Rattle.history_machine.specs.declared.entry.Told.{Told}
use Rattle.history_machine.specs.declared.entry.Told.TheVariants.{Done, Refused}
use Rattle.history_machine.specs.declared.event.Event.{Event}
use Rattle.history_machine.specs.declared.event.Event.TheVariants.{GiveBack}
use Rattle.server_shared.specs.declared.receipt.Receipt.{Receipt}

-- How many Jobs are in hand after an entry of this kind and outcome, where so many were before. A Job that is taken comes in hand. One that
-- is delivered or given back leaves it; a delivery of a Job that is not out leaves it in hand.
abbrev pub jobs_left : EntryKind → Told → ℕ → ℕ
jobs_left kind.Take (Done number) jobs = jobs + 1
jobs_left kind.Deliver (Refused NoJob) jobs = jobs
jobs_left kind.Deliver out jobs = jobs - 1
jobs_left kind.GiveBack out jobs = jobs - 1
jobs_left other out jobs = jobs

-- how many Jobs are in hand after these receipts, where so many were before
abbrev pub jobs_on : ℕ → List Receipt → ℕ
jobs_on jobs [] = jobs
jobs_on jobs (r ∷ rs) = jobs_on (jobs_left r.entry.line.kind r.entry.line.out jobs) rs

-- how many Jobs a seat with these receipts has in hand
abbrev pub jobs_in_hand : List Receipt → ℕ
jobs_in_hand = jobs_on 0

-- With so many Jobs in hand, a seat may have no room for the receipt of the event. For a Job in hand that is given back it has room.
abbrev pub MayLackRoom : Event → ℕ → Type 0
MayLackRoom (GiveBack job) jobs = ¬ (0 < jobs)
MayLackRoom event jobs = ⊤

-- A seat comes to rest: it holds no receipt any more, and had no Job in hand. Or it keeps its receipts.
abbrev pub IsRested : (old new : List Receipt) → Type 0
IsRested old new = ((new ≡ []) × (jobs_in_hand old ≡ 0)) ⊎ (new ≡ old)

-- P holds of the receipts that a seat had at first, and of all that it had since: those that it handed in meanwhile, with no Job in hand, and
-- those that it holds at last.
abbrev pub WithHandedIn : (List Receipt → List Receipt → Type 0) → (old new : List Receipt) → Type 0
WithHandedIn P old new = (past : List Receipt) × (jobs_in_hand past ≡ 0) × P old (past ++ new)
