-- What an entry of the journal makes of the content before it, and what two replays of one journal share.
use Rattle.std.specs.Prelude.{ℕ, ◌≡◌, Bool, List, [], ◌∷◌, ◌++◌, Option, Some, map, slice_get}
use Rattle.std.specs.Option.{is_some}
use Rattle.base_edits.specs.EditSet.{FileChanges, edited}
use Rattle.base_files.specs.Workspace.{Workspace}
use Rattle.base_files.specs.declared.limits.Limits.{Limits}
use Rattle.build_carry.specs.Carried.{IsCarried}
use Rattle.build_carry.specs.Finished.{Table, GainsUnit, IsFinished}
use Rattle.build_unit.specs.Jobs.{JobsOut, RemovesJob, with_job}
use Rattle.build_unit.specs.Units.{unit_value}
use Rattle.build_unit.specs.declared.out.JobLabel.{JobLabel}
use Rattle.build_unit.specs.declared.unit.Unit.{Unit as PackageUnit}
use Rattle.history_machine.specs.Journal.{Records}
use Rattle.history_machine.specs.Machine.{Content, BeginsVisit, IsOneBefore, changed, with_finished}
use Rattle.history_machine.specs.Run.{IsReplay}
use Rattle.history_machine.specs.State.{State}
use Rattle.history_machine.specs.Step.{Answers}
use Rattle.history_machine.specs.Waiting.{IsFirstWaiting}
use Rattle.history_machine.specs.declared.entry.Entry.{Entry}
use Rattle.history_machine.specs.declared.entry.EntryKind.{EntryKind}
use Rattle.history_machine.specs.declared.entry.EntryKind.TheVariants.{Commit, Undo, Redo, Take, Deliver, GiveBack}
use Rattle.history_machine.specs.declared.entry.Reason.TheVariants.{NoJob}
use Rattle.history_machine.specs.declared.entry.Told.{Told}
use Rattle.history_machine.specs.declared.entry.Told.TheVariants.{Done, Refused}
use Rattle.history_machine.specs.declared.event.Event.{Event}
use Rattle.history_machine.specs.declared.event.Reply.{Reply}

-- The edits that the entry keeps make the new state of the current one. Finished units are carried over.
pub record CommitsEdits (old : Content) (kept : Option FileChanges) (new : Content) : Type 0 where
  pub edits : FileChanges
  pub has_edits : kept ≡ Some edits
  pub finished : Table
  pub carried : IsCarried old.current.files old.current.finished (edited edits old.current.files) finished
  pub is_changed : new ≡ changed old (edited edits old.current.files) finished

-- A Job of the first package that waits is out afterwards, with the next ticket.
pub record TakesNext (old new : Content) : Type 0 where
  pub label : JobLabel
  pub ticket : label.ticket ≡ old.out.ticket
  pub number : label.number ≡ old.current.number
  pub visit : label.visit ≡ old.visit
  pub first : IsFirstWaiting old.current old.out old.visit label.package
  pub is_out : new ≡ record old { out = with_job old.out label }

-- The Job of the ticket that the entry keeps was out, with this label, and `out` are the Jobs that are out without it.
pub record ReturnsTicket (old : JobsOut) (kept : Option ℕ) (label : JobLabel) (out : JobsOut) : Type 0 where
  pub has_ticket : kept ≡ Some label.ticket
  pub removes : RemovesJob old label out

-- The Job of that ticket is not out afterwards. Nothing else changes.
pub record LosesTicket (old : Content) (kept : Option ℕ) (new : Content) : Type 0 where
  pub label : JobLabel
  pub out : JobsOut
  pub returns : ReturnsTicket old.out kept label out
  pub is_lost : new ≡ record old { out = out }

-- The Job of that ticket is not out afterwards, and its package is finished.
pub record FinishesTicket (old : Content) (kept : Option ℕ) (new : Content) : Type 0 where
  pub label : JobLabel
  pub out : JobsOut
  pub returns : ReturnsTicket old.out kept label out
  pub unit : PackageUnit
  pub finished : Table
  pub gains : GainsUnit old.current.files old.current.finished label.package unit finished
  pub is_finished : new ≡ record old { current = with_finished old.current finished; out = out }

-- What an event of this kind and outcome makes of the content, by the entry alone.
abbrev pub HasEffect : EntryKind → Told → Content → Entry → Content → Type 0
HasEffect Commit (Done number) old entry new = CommitsEdits old entry.edits new
HasEffect Undo (Done number) old entry new = BeginsVisit old new × IsOneBefore new old
HasEffect Redo (Done number) old entry new = BeginsVisit old new × IsOneBefore old new
HasEffect Take (Done number) old entry new = TakesNext old new
HasEffect Deliver (Done number) old entry new = FinishesTicket old entry.subject new
HasEffect Deliver (Refused NoJob) old entry new = new ≡ old
HasEffect Deliver (Refused reason) old entry new = LosesTicket old entry.subject new
HasEffect GiveBack (Done number) old entry new = LosesTicket old entry.subject new
HasEffect kind told old entry new = new ≡ old

-- `new` is what the entry makes of `old`.
abbrev pub Replays : Content → Entry → Content → Type 0
Replays old entry new = HasEffect entry.line.kind entry.line.out old entry new

-- An answered event makes of the content what its entry tells.
abbrev pub EntriesTellSteps : Type 0
EntriesTellSteps = (old new : Content) (event : Event) (reply : Reply) (journal longer : List Entry) → Answers old event reply new →
    (r : Records old.current.number old.begun journal event reply longer) → (entry : Entry) × (longer ≡ journal ++ entry ∷ []) × Replays old entry new

-- A state without its units: for each package, by its number, whether it is finished.
pub record StateOutline : Type 0 where
  pub number : ℕ
  pub files : Workspace
  pub finished : List Bool

abbrev pub state_outline : State → StateOutline
state_outline s = record { number = s.number; files = s.files; finished = map is_some s.finished }

-- A content without the units of its states.
pub record Outline : Type 0 where
  pub limits : Limits
  pub earlier : List StateOutline
  pub current : StateOutline
  pub later : List StateOutline
  pub next : ℕ
  pub visit : ℕ
  pub out : JobsOut

abbrev pub outline : Content → Outline
outline c = record {
  limits = c.limits;
  earlier = map state_outline c.earlier;
  current = state_outline c.current;
  later = map state_outline c.later;
  next = c.next;
  visit = c.visit;
  out = c.out;
}

-- In both states a finished package has one unit, by its faults, or its export data and object.
abbrev pub HaveSameUnits : State → State → Type 0
HaveSameUnits a b = (p : List ℕ) (u v : PackageUnit) → IsFinished a.files a.finished p u → IsFinished b.files b.finished p v →
    unit_value p u ≡ unit_value p v

-- So have the states of one place in both lists.
abbrev pub HaveSameUnitsEach : (xs ys : List State) → Type 0
HaveSameUnitsEach xs ys = (i : ℕ) (a b : State) → slice_get xs i ≡ Some a → slice_get ys i ≡ Some b → HaveSameUnits a b

-- Both contents have the same states, Jobs out and numbers, and the same finished units.
pub record IsSameContent (c d : Content) : Type 0 where
  pub outlines : outline c ≡ outline d
  pub earlier : HaveSameUnitsEach c.earlier d.earlier
  pub current : HaveSameUnits c.current d.current
  pub later : HaveSameUnitsEach c.later d.later

-- A journal has one replay.
abbrev pub ReplaysAreUnique : Type 0
ReplaysAreUnique = (limits : Limits) (journal : List Entry) (c d : Content) → IsReplay limits journal c → IsReplay limits journal d →
    IsSameContent c d
