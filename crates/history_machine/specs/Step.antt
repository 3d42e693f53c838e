-- The steps of the machine: a reply to each event, and the machine after it. Contracts see a Job, and what was built, as data.
use Rattle.std.specs.Prelude.{◌≡◌, ℕ, ◌+◌, ◌≤◌, ◌⊎◌, ⊤, List, [], ◌∷◌, ◌++◌, length, Option, MatchOption, Some, None, Result, Ok, Err}
use Rattle.base_files.specs.declared.refusal.Refusal.{Refusal}
use Rattle.base_files.specs.declared.refusal.Refusal.TheVariants.{Memory, Moved, NothingToUndo, NothingToRedo, JournalFull, Stale, Already, NoJob}
use Rattle.build_unit.specs.Jobs.{IsOut, JobsOut, label_of, with_job}
use Rattle.build_unit.specs.declared.built.Built.{Built}
use Rattle.build_unit.specs.declared.job.JobRecord.{JobRecord}
use Rattle.build_carry.specs.Finished.{Table}
use Rattle.history_machine.specs.declared.view.View.{View}
use Rattle.history_machine.specs.declared.event.Event.{Event}
use Rattle.history_machine.specs.declared.event.Event.TheVariants.{Look, Log, Commit, Undo, Redo, Take, Deliver, GiveBack}
use Rattle.history_machine.specs.declared.event.Reply.{Reply}
use Rattle.history_machine.specs.declared.event.Reply.TheVariants.{Looked, Logged, Done, Taken, Refused, Back}
use Rattle.build_carry.specs.Carried.{IsCarried}
use Rattle.workspace_snapshot.specs.Made.{IsMadeByEdits}
use Rattle.base_edits.specs.EditSet.{FileChanges}
use Rattle.history_machine.specs.declared.entry.Entry.{Entry}
use Rattle.history_machine.specs.Journal.{Records, ShowsLine, entry_of, told_of}
use Rattle.history_machine.specs.Machine.{Content, Machine, BeginsVisit, FinishesPackage, FitsCurrent, IsOneBefore, LosesJob, changed, content, IsViewOf}
use Rattle.history_machine.specs.Waiting.{IsNextJob, WaitsIn}
use Rattle.history_machine.specs.Deliveries.{IsFresh, IsRightlyBuilt, HasUnit}

-- how many entries the journal has, and is still to have for the Jobs out
abbrev pub entries_due : Machine → ℕ
entries_due m = length m.journal + length m.out.jobs

-- Of `most` entries, `due` of which are due, enough are left for the event's entry, and for that of the Job of a Take. An event that hands
-- in a Job that is out has its entry among the due ones.
abbrev pub HasPlace : (most due : ℕ) → JobsOut → Event → Type 0
HasPlace most due out Take = due + 2 ≤ most
HasPlace most due out (Deliver job built) = IsOut out job ⊎ (due + 1 ≤ most)
HasPlace most due out (GiveBack job) = IsOut out job ⊎ (due + 1 ≤ most)
HasPlace most due out event = due + 1 ≤ most

-- the journal has room for the entry of the event
abbrev pub HasRoom : Machine → Event → Type 0
HasRoom m event = HasPlace m.limits.journal (entries_due m) m.out event

-- the event hands in a Job that is out
abbrev pub BringsOut : JobsOut → Event → Type 0
BringsOut out (Deliver job built) = IsOut out job
BringsOut out (GiveBack job) = IsOut out job
BringsOut out event = ⊥

-- the event hands in a Job, out or not
abbrev pub BringsJob : Event → Type 0
BringsJob (Deliver job built) = ⊤
BringsJob (GiveBack job) = ⊤
BringsJob event = ⊥

-- the event hands in this Job, and what was built if it is a delivery
abbrev pub HandsOver : Event → JobRecord → Option Built → Type 0
HandsOver (Deliver job built) back unit = (back ≡ job) × (unit ≡ Some built)
HandsOver (GiveBack job) back unit = (back ≡ job) × (unit ≡ None)
HandsOver event back unit = ⊥

-- the event may be refused for want of memory: all but a Job that is out and is given back
abbrev pub MayLackMemory : JobsOut → Event → Type 0
MayLackMemory out (GiveBack job) = ¬ (IsOut out job)
MayLackMemory out event = ⊤

-- The content after an event that gets this reply. The journal, and want of memory, don't count here.
abbrev pub Answers : Content → Event → Reply → Content → Type 0
Answers old Look (Looked view) new = IsViewOf old view × (new ≡ old)
Answers old (Log asked) (Logged number line) new = (number ≡ old.current.number) × (new ≡ old)
Answers old (Commit basis change) (Done number) new =
    (FitsCurrent old basis change × IsMadeByEdits change) × (number ≡ old.next)
    × ((finished : Table) × IsCarried old.current.files old.current.finished change.files finished × (new ≡ changed old change.files finished))
Answers old (Commit basis change) (Refused (Moved current)) new = ¬ (FitsCurrent old basis change) × (current ≡ old.current.number) × (new ≡ old)
Answers old (Undo basis) (Done number) new = (basis ≡ old.current.number) × (number ≡ new.current.number) × BeginsVisit old new × IsOneBefore new old
Answers old (Undo basis) (Refused (Moved current)) new = ¬ (basis ≡ old.current.number) × (current ≡ old.current.number) × (new ≡ old)
Answers old (Undo basis) (Refused NothingToUndo) new = (basis ≡ old.current.number) × (old.earlier ≡ []) × (new ≡ old)
Answers old (Redo basis) (Done number) new = (basis ≡ old.current.number) × (number ≡ new.current.number) × BeginsVisit old new × IsOneBefore old new
Answers old (Redo basis) (Refused (Moved current)) new = ¬ (basis ≡ old.current.number) × (current ≡ old.current.number) × (new ≡ old)
Answers old (Redo basis) (Refused NothingToRedo) new = (basis ≡ old.current.number) × (old.later ≡ []) × (new ≡ old)
Answers old Take (Taken job) new = IsNextJob old job × (new ≡ record old { out = with_job old.out (label_of job) })
Answers old Take (Refused NoJob) new = ((p : List ℕ) → WaitsIn old p → ⊥) × (new ≡ old)
Answers old (Deliver job built) (Back NoJob back unit) new = ¬ (IsOut old.out job) × HandsOver (Deliver job built) back unit × (new ≡ old)
Answers old (Deliver job built) (Refused (Stale current)) new = ¬ (IsFresh old.current job built) × (current ≡ old.current.number) × LosesJob old job new
Answers old (Deliver job built) (Refused Already) new = IsFresh old.current job built × HasUnit old.current job.package × LosesJob old job new
Answers old (Deliver job built) (Done number) new =
    IsFresh old.current job built × ¬ (HasUnit old.current job.package) × (number ≡ old.current.number) × FinishesPackage old job built.unit new
    × IsRightlyBuilt built
Answers old (GiveBack job) (Back NoJob back unit) new = ¬ (IsOut old.out job) × HandsOver (GiveBack job) back unit × (new ≡ old)
Answers old (GiveBack job) (Done number) new = (number ≡ old.current.number) × LosesJob old job new
Answers old event reply new = ⊥

-- the content after an event that gets this reply; for want of memory nothing changes, and the event's Job comes back
abbrev pub AnswersOrLacks : Content → Event → Reply → Content → Type 0
AnswersOrLacks old event (Refused Memory) new = ¬ (BringsJob event) × (new ≡ old)
AnswersOrLacks old event (Back Memory job unit) new = HandsOver event job unit × MayLackMemory old.out event × (new ≡ old)
AnswersOrLacks old event reply new = Answers old event reply new

-- Content and journal after an event that gets this reply. The journal gains the event's entry, except for want of memory, when nothing
-- changes.
abbrev pub EntersEvent : Content → List Entry → Event → Reply → Content → List Entry → Type 0
EntersEvent old journal event reply new journals =
    AnswersOrLacks old event reply new × ShowsLine old.begun journal event reply
    × MatchOption (told_of reply) (journals ≡ journal) (λ told. journals ≡ journal ++ entry_of old.current.number event reply told ∷ [])

-- From old, the machine may give this reply to the event and become new. The journal has room for the event's entry, and gains it.
abbrev pub Step : Machine → Event → Reply → Machine → Type 0
-- An event that is refused for want of memory, or of room in the journal, changes nothing and has no entry; its Job comes back.
Step old event (Refused Memory) new = ¬ (BringsJob event) × (new ≡ old)
Step old event (Refused JournalFull) new = ¬ (BringsJob event) × ¬ (HasRoom old event) × (new ≡ old)
Step old event (Back Memory job unit) new = HandsOver event job unit × MayLackMemory old.out event × (new ≡ old)
Step old event (Back JournalFull job unit) new = HandsOver event job unit × ¬ (HasRoom old event) × (new ≡ old)
Step old event reply new = HasRoom old event × Answers (content old) event reply (content new) × Records old.current.number old.begun old.journal event
    reply new.journal

-- the reply to a look with this answer
abbrev pub looked : Result View Refusal → Reply
looked (Ok view) = Looked view
looked (Err refusal) = Refused refusal

-- the reply to an event that is answered by a state's number
abbrev pub done : Result ℕ Refusal → Reply
done (Ok number) = Done number
done (Err refusal) = Refused refusal

-- the reply to a Take with this answer
abbrev pub taken : Result JobRecord Refusal → Reply
taken (Ok job) = Taken job
taken (Err refusal) = Refused refusal

-- the reply to a commit that is answered by the new state's number and the change's edits
abbrev pub committed : Result (ℕ × FileChanges) Refusal → Reply
committed (Ok made) = Done made.0
committed (Err refusal) = Refused refusal

-- the reply that refuses an event; it brings back the event's Job, and what was built
abbrev pub refused : Event → Refusal → Reply
refused (Deliver job built) refusal = Back refusal job (Some built)
refused (GiveBack job) refusal = Back refusal job None
refused event refusal = Refused refusal
