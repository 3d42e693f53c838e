-- The calls of a worker.
use Rattle.std.specs.Prelude.{◌≡◌, ◌⊎◌, ℕ, zero, suc, ⊤, true, false, Bool, List, Option, Some, None, Result, IfErr}
use Rattle.base_files.specs.declared.refusal.Refusal.{Refusal}
use Rattle.base_files.specs.declared.refusal.Refusal.TheVariants.{Memory}
use Rattle.build_unit.specs.Builds.{IsBuiltOf}
use Rattle.build_unit.specs.declared.built.Built.{Built}
use Rattle.build_unit.specs.declared.job.JobRecord.{JobRecord}
use Rattle.history_machine.specs.declared.entry.EntryKind.{EntryKind}
use Rattle.history_machine.specs.declared.entry.EntryKind.TheVariants as kind
use Rattle.history_machine.specs.declared.entry.Told.{Told}
use Rattle.history_machine.specs.declared.entry.Told.TheVariants.{Done}
use Rattle.history_machine.specs.declared.event.Event.{Event}
use Rattle.history_machine.specs.declared.event.Event.TheVariants.{Take, Deliver, GiveBack}
use Rattle.history_machine.specs.declared.event.Reply.{Reply}
use Rattle.history_machine.specs.declared.event.Reply.TheVariants.{Taken, Refused, Back}
use Rattle.history_machine.specs.Machine.{Machine}
use Rattle.history_machine.specs.Step.{taken}
use Rattle.server_shared.specs.declared.receipt.Receipt.{Receipt}
use Rattle.server_shared.specs.Call.{CallsWith}
use Rattle.server_shared.specs.Held.{WithHandedIn}
use Rattle.server_shared.specs.Steps.{ReceiptStep}
use Rattle.server_shared.specs.Waking.{HasWork}
use Rattle.server_shared.specs.declared.work_turn.WorkTurn.{WorkTurn}
use Rattle.server_shared.specs.declared.work_turn.WorkTurn.TheVariants.{HandedIn, Lacking}

-- the reply brings the Job back
abbrev pub ComesBack : Reply → Type 0
ComesBack (Back refusal job unit) = ⊤
ComesBack reply = ⊥

-- a Take that has this answer is refused only for want of memory
abbrev pub LacksOnly : Result JobRecord Refusal → Type 0
LacksOnly answer = IfErr answer (λ refusal. refusal ≡ Memory)

-- A worker takes a Job of the book, or finds memory wanting: one step, with a receipt of its entry, exactly where it may take a Job. Where
-- it may take none, no step is made.
abbrev pub TakesJob : (is_stopped : Bool) → Machine → Option (Result JobRecord Refusal × Option Receipt) → Machine → Type 0
TakesJob is_stopped old None new = ¬ (HasWork is_stopped old) × (new ≡ old)
TakesJob is_stopped old (Some took) new = HasWork is_stopped old × ReceiptStep old Take (taken took.0) took.1 new × LacksOnly took.0

-- A worker's calls. `steps` are those of some caller, of which nothing else is known: what holds for every `steps` holds of the calls that
-- were made, refused ones too. No other clause can tell that a call was made which left no entry.
module _ {C : Type 0} (steps : C → Event → Reply → C → Type 0) where
  -- the event is called, whatever its reply
  abbrev pub CallsEvent : C → Event → C → Type 0
  CallsEvent old event new = (reply : Reply) × steps old event reply new

  -- what was built for the Job is delivered, and the Job does not come back
  abbrev pub DeliversBuilt : C → JobRecord → C → Type 0
  DeliversBuilt old job new =
      (built : Built) × IsBuiltOf job built × ((reply : Reply) × (¬ (ComesBack reply)) × steps old (Deliver job built) reply new)

  -- the Job is given back: unbuilt, or behind a delivery of which it came back
  abbrev pub GivesJobBack : C → JobRecord → C → Type 0
  GivesJobBack old job new =
      CallsEvent old (GiveBack job) new
      ⊎ ((built : Built) × IsBuiltOf job built
      × ((reply : Reply) × (mid : C) × ComesBack reply × steps old (Deliver job built) reply mid × CallsEvent mid (GiveBack job) new))

  -- The Job is built and delivered, or given back. Each Job that was taken is so handed in once: it is delivered, given back, or
  -- retired after giving it back failed. A Job in hand is not retired for want of memory at the seat (`MayLackRoom`): some book turned it
  -- away, and in that book the Job was not out. No clause ties this book to the one that handed the Job out:
  -- no fact spans two takings of the lock.
  abbrev pub HandsIn : C → JobRecord → WorkTurn → C → Type 0
  HandsIn old job turn new = ((turn ≡ HandedIn) × DeliversBuilt old job new) ⊎ ((turn ≡ Lacking) × GivesJobBack old job new)

  -- A Take is refused for want of memory, or a Job is taken and handed in; the turn tells whether memory was wanting. No Take is refused
  -- for want of a package to build.
  abbrev pub TakesTurn : C → WorkTurn → C → Type 0
  TakesTurn old turn new =
      ((turn ≡ Lacking) × steps old Take (Refused Memory) new)
      ⊎ ((job : JobRecord) × (mid : C) × steps old Take (Taken job) mid × HandsIn mid job turn new)

  -- so many turns are taken, one after another
  abbrev pub TakesTurns : ℕ → C → C → Type 0
  TakesTurns zero old new = new ≡ old
  TakesTurns (suc n) old new = (mid : C) × TakesTurns n old mid × ((turn : WorkTurn) × TakesTurn mid turn new)

-- A worker takes turns at a seat, and nothing else is called there.
abbrev pub TakesSome : (most : ℕ) → (old new : List Receipt) → Type 0
TakesSome most old new = (turns : ℕ) × TakesTurns (CallsWith most) turns old new

-- A worker takes turns at a seat, which hands its receipts in now and then.
abbrev pub WorksOn : (most : ℕ) → (old new : List Receipt) → Type 0
WorksOn most = WithHandedIn (TakesSome most)

-- Where a worker alone takes turns at a seat with these receipts, all that it then holds is accounted for.
abbrev pub AccountsForTurns : (List Receipt → Type 0) → (most : ℕ) → List Receipt → Type 0
AccountsForTurns P most old = (new : List Receipt) → TakesSome most old new → ∥ P new ∥₁

-- whether a worker leaves entries of this kind and outcome: each of its Takes that leaves one handed out a Job
abbrev pub is_work : EntryKind → Told → Bool
is_work kind.Take (Done number) = true
is_work kind.Deliver out = true
is_work kind.GiveBack out = true
is_work other out = false

-- the receipt is of a worker's event, and no Take that handed out no Job
abbrev pub IsWork : Receipt → Type 0
IsWork receipt = is_work receipt.entry.line.kind receipt.entry.line.out ≡ true
