-- The laws of the history over every list of events.
use Rattle.std.specs.Prelude.{◌≡◌, ℕ, ◌+◌, ◌<◌, ⊤, List, [], ◌∷◌, ◌++◌, MatchOption, Some}
use Rattle.std.specs.List.{AllByRecursion}
use Rattle.base_files.specs.declared.limits.Limits.{Limits}
use Rattle.base_files.specs.declared.refusal.Refusal.TheVariants.{Memory, JournalFull}
use Rattle.build_unit.specs.Jobs.{JobsOut, RemovesJob, label_of}
use Rattle.build_unit.specs.declared.job.JobRecord.{JobRecord}
use Rattle.workspace_snapshot.specs.declared.change.Change.{Change}
use Rattle.history_machine.specs.declared.event.Event.{Event}
use Rattle.history_machine.specs.declared.event.Event.TheVariants.{Commit, Undo, Redo, Deliver}
use Rattle.history_machine.specs.declared.event.Reply.{Reply}
use Rattle.history_machine.specs.declared.event.Reply.TheVariants.{Done, Refused, Back}
use Rattle.history_machine.specs.declared.entry.Entry.{Entry}
use Rattle.history_machine.specs.declared.entry.Told.{Told}
use Rattle.history_machine.specs.Journal.{entry_of, told_of}
use Rattle.history_machine.specs.State.{State}
use Rattle.history_machine.specs.Machine.{Content, Machine, IsOneBefore, content, opening, recorded, states, with_journal, cursor}
use Rattle.history_machine.specs.Step.{Step}

-- From old, the machine may give these replies to these events, in order, and become new.
abbrev pub Run : Machine → List (Event × Reply) → Machine → Type 0
Run old [] new = new ≡ old
Run old (e ∷ es) new = (mid : Machine) × Step old e.0 e.1 mid × Run mid es new

-- The content is the replay of the journal: some run from the opening state leads to both. The journal has exactly the entries of that
-- run's events, in their order.
abbrev pub IsReplay : Limits → List Entry → Content → Type 0
IsReplay limits journal c = (events : List (Event × Reply)) × Run (opening limits) events (with_journal c journal)

-- The journal is legal: some run from the opening state leaves it.
abbrev pub IsLegal : Limits → List Entry → Type 0
IsLegal limits journal = (c : Content) × IsReplay limits journal c

-- The new journal is the old one and the entries of these events, each with its reply, in their order. An event whose reply leaves no entry
-- adds none.
abbrev pub AppendsEntries : List Entry → List (Event × Reply) → List Entry → Type 0
AppendsEntries journal [] new = new ≡ journal
AppendsEntries journal (e ∷ es) new =
    MatchOption (told_of e.1) (AppendsEntries journal es new) (λ told. (current : ℕ) × AppendsEntries (journal ++ entry_of current e.0 e.1 told ∷ []) es new)

-- A run adds exactly the entries of its events to the journal, in their order.
abbrev pub RunsAddEntries : Type 0
RunsAddEntries = (old : Machine) (events : List (Event × Reply)) (new : Machine) → Run old events new → AppendsEntries old.journal events new.journal

-- A run from the opening state leaves a legal journal, and its content is the replay of that journal.
abbrev pub RunsAreLegal : Type 0
RunsAreLegal = (limits : Limits) (events : List (Event × Reply)) (m : Machine) → Run (opening limits) events m
    → IsLegal limits m.journal × IsReplay limits m.journal (content m)

-- the event is an admitted change, undo or redo
abbrev pub IsAdmitted : Event → Reply → Type 0
IsAdmitted (Commit basis change) (Done number) = ⊤
IsAdmitted (Undo basis) (Done number) = ⊤
IsAdmitted (Redo basis) (Done number) = ⊤
IsAdmitted event reply = ⊥

-- no change, undo or redo among these events is admitted
abbrev pub AdmitsNoChange : List (Event × Reply) → Type 0
AdmitsNoChange = AllByRecursion (λ e. ¬ (IsAdmitted e.0 e.1))

-- The reply is `Done`, and the state is current again, with its number. Or memory or room in the journal was wanting, and nothing changes.
abbrev pub Restores : State → Machine → Reply → Machine → Type 0
Restores state old (Done number) new = (number ≡ state.number) × (new.current ≡ state)
Restores state old (Refused Memory) new = new ≡ old
Restores state old (Refused JournalFull) new = new ≡ old
Restores state old reply new = ⊥

-- Undo after an admitted change restores the state before the change. Between them no change, undo or redo is admitted.
abbrev pub UndoRestores : Type 0
UndoRestores = (start changed settled end : Machine) (basis number : ℕ) (change : Change) (between : List (Event × Reply)) (reply : Reply)
    → Step start (Commit basis change) (Done number) changed
    → Run changed between settled → AdmitsNoChange between
    → Step settled (Undo settled.current.number) reply end
    → Restores start.current settled reply end

-- Redo after an undo restores the state before the undo. Between them no change, undo or redo is admitted.
abbrev pub RedoRestores : Type 0
RedoRestores = (start undone settled end : Machine) (basis number : ℕ) (between : List (Event × Reply)) (reply : Reply)
    → Step start (Undo basis) (Done number) undone
    → Run undone between settled → AdmitsNoChange between
    → Step settled (Redo settled.current.number) reply end
    → Restores start.current settled reply end

-- Undo and redo keep the list of states, and move the cursor by one.
abbrev pub MovesCursor : Type 0
MovesCursor = (before after : Content) → IsOneBefore before after
    → (states before ≡ states after) × (cursor before + 1 ≡ cursor after)

-- Of two admitted changes the later has the greater number, whatever comes between them. So no number is given twice.
abbrev pub NumbersRise : Type 0
NumbersRise = (start changed settled end : Machine) (basis next_basis first second : ℕ) (change next_change : Change) (between : List (Event × Reply))
    → Step start (Commit basis change) (Done first) changed
    → Run changed between settled
    → Step settled (Commit next_basis next_change) (Done second) end
    → first < second

-- No change has the number 0, which is that of the opening state.
abbrev pub NumbersArePositive : Type 0
NumbersArePositive = (limits : Limits) (settled end : Machine) (before : List (Event × Reply)) (basis number : ℕ) (change : Change)
    → Run (opening limits) before settled
    → Step settled (Commit basis change) (Done number) end
    → 0 < number

-- the new machine is `rest` with the entry of the event and its reply added to the journal
abbrev pub AddsEntry : Machine → Event → Reply → (rest new : Machine) → Type 0
AddsEntry old event reply rest new =
    (told : Told) × (told_of reply ≡ Some told) × (new ≡ recorded rest (entry_of old.current.number event reply told))

-- the delivered Job is not out after the event, and the journal gains the entry of the event and its reply; nothing else changes
abbrev pub SpendsJob : Machine → Event → Reply → JobRecord → Machine → Type 0
SpendsJob old event reply job new = (out : JobsOut) × RemovesJob old.out (label_of job) out × AddsEntry old event reply (record old { out = out }) new

-- the machine after a refused event; a reply that is no refusal says nothing here
abbrev pub KeepsIfRefused : Machine → Event → Reply → Machine → Type 0
KeepsIfRefused old event (Refused Memory) new = new ≡ old
KeepsIfRefused old event (Refused JournalFull) new = new ≡ old
KeepsIfRefused old event (Back Memory job unit) new = new ≡ old
KeepsIfRefused old event (Back JournalFull job unit) new = new ≡ old
KeepsIfRefused old (Deliver job built) (Refused refusal) new = SpendsJob old (Deliver job built) (Refused refusal) job new
KeepsIfRefused old event (Refused refusal) new = AddsEntry old event (Refused refusal) old new
KeepsIfRefused old event (Back refusal job unit) new = AddsEntry old event (Back refusal job unit) old new
KeepsIfRefused old event reply new = ⊤

-- A refusal for want of memory, or of room in the journal, changes nothing. Any other refusal adds its entry to the journal. Of the rest it
-- changes nothing, except that a refused delivery that does not come back spends its Job.
abbrev pub RefusalsKeepAll : Type 0
RefusalsKeepAll = (old new : Machine) (event : Event) (reply : Reply)
    → Step old event reply new
    → KeepsIfRefused old event reply new
