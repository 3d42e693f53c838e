-- The history of a workspace as a machine: its states, the Jobs that are out, and how its steps change both.
use Rattle.std.specs.Prelude.{◌≡◌, ℕ, ◌+◌, ◌-◌, ◌^◌, ◌<◌, ⊤, List, [], ◌∷◌, ◌++◌, Option, Some, None, length, drop, map, reverse}
use Rattle.std.specs.FinMap as files
use Rattle.base_files.specs.Packages.{package_paths}
use Rattle.base_files.specs.Workspace.{Workspace}
use Rattle.base_files.specs.declared.limits.Limits.{Limits}
use Rattle.build_unit.specs.Jobs.{JobsOut, RemovesJob, label_of}
use Rattle.build_unit.specs.declared.job.JobRecord.{JobRecord}
use Rattle.build_unit.specs.declared.unit.Unit.{Unit as PackageUnit}
use Rattle.build_carry.specs.Finished.{Table, GainsUnit}
use Rattle.history_machine.specs.declared.seen_state.SeenState.{SeenState}
use Rattle.history_machine.specs.declared.view.View.{View}
use Rattle.workspace_snapshot.specs.declared.snapshot.Snapshot.{Snapshot}
use Rattle.workspace_snapshot.specs.declared.change.Change.{Change}
use Rattle.history_machine.specs.declared.entry.Entry.{Entry}
use Rattle.history_machine.specs.State.{State}

-- The states of a workspace, with a cursor on the current one, and the Jobs that are out.
pub record Content : Type 0 where
  pub limits : Limits
  -- the states that undo reaches, the nearest last
  pub earlier : List State
  pub current : State
  -- the states that redo reaches, the nearest last
  pub later : List State
  -- the number of the next new state
  pub next : ℕ
  -- how many visits have begun: each admitted change, undo and redo begins one
  pub visit : ℕ
  -- how many entries the journals have that were closed
  pub begun : ℕ
  -- the Jobs that are out
  pub out : JobsOut

-- The states of a workspace, the Jobs that are out, and the journal of the events.
pub record Machine : Type 0 where
  pub limits : Limits
  pub earlier : List State
  pub current : State
  pub later : List State
  pub next : ℕ
  pub visit : ℕ
  pub begun : ℕ
  pub out : JobsOut
  -- the entries of the events since a journal was closed, each with its reply, the oldest first
  pub journal : List Entry

-- the machine without its journal
abbrev pub content : Machine → Content
content m = record {
  limits = m.limits;
  earlier = m.earlier;
  current = m.current;
  later = m.later;
  next = m.next;
  visit = m.visit;
  begun = m.begun;
  out = m.out;
}

-- the machine with this content and this journal
abbrev pub with_journal : Content → List Entry → Machine
with_journal c journal = record {
  limits = c.limits;
  earlier = c.earlier;
  current = c.current;
  later = c.later;
  next = c.next;
  visit = c.visit;
  begun = c.begun;
  out = c.out;
  journal = journal;
}

-- the machine once its journal is closed: the next one has no entries yet, and all else stays
abbrev pub closed : Machine → Machine
closed m = record m { begun = m.begun + length m.journal; journal = [] }

-- all states, from the oldest to the newest
abbrev pub states : Content → List State
states m = m.earlier ++ m.current ∷ reverse m.later

-- the place of the current state among all states, from 0
abbrev pub cursor : Content → ℕ
cursor m = length m.earlier

-- the machine, with this entry added to its journal
abbrev pub recorded : Machine → Entry → Machine
recorded m entry = record m { journal = m.journal ++ entry ∷ [] }

-- the last `depth` states of a list
abbrev pub newest : ℕ → List State → List State
newest depth states = drop (length states - depth) states

-- The content after a change to these files and this table: the new state is the current one, with the next number. No state is left for
-- redo, and a visit begins. Of the states that undo reaches the newest `undo_depth` are kept.
abbrev pub changed : Content → Workspace → Table → Content
changed m files finished = record m {
  earlier = newest m.limits.undo_depth (m.earlier ++ m.current ∷ []);
  current = record { number = m.next; files = files; finished = finished };
  later = [];
  next = m.next + 1;
  visit = m.visit + 1;
}

-- n and m have the same list of states, and n's cursor is one state before m's
pub record IsOneBefore (n m : Content) : Type 0 where
  pub limits : n.limits ≡ m.limits
  pub earlier : m.earlier ≡ n.earlier ++ n.current ∷ []
  pub later : n.later ≡ m.later ++ m.current ∷ []
  pub next : n.next ≡ m.next
  pub begun : n.begun ≡ m.begun

-- a visit begins, and the Jobs out stay
pub record BeginsVisit (old new : Content) : Type 0 where
  pub visit : new.visit ≡ old.visit + 1
  pub out : new.out ≡ old.out

-- the next number, the count of visits and the next ticket can each grow by one within 64 bits
pub record HasNumbersLeft (c : Content) : Type 0 where
  pub next : c.next + 1 < 2 ^ 64
  pub visit : c.visit + 1 < 2 ^ 64
  pub ticket : c.out.ticket + 1 < 2 ^ 64

-- the Job was out, and is not out after the event; nothing else changes
abbrev pub LosesJob : Content → JobRecord → Content → Type 0
LosesJob old job new = (out : JobsOut) × RemovesJob old.out (label_of job) out × (new ≡ record old { out = out })

-- the state with another table of finished units
abbrev pub with_finished : State → Table → State
with_finished state finished = record state { finished = finished }

-- the Job was out, and is not out after the event; its package is finished in the current state, with this unit
abbrev pub FinishesPackage : Content → JobRecord → PackageUnit → Content → Type 0
FinishesPackage old job unit new =
    (out : JobsOut) × (finished : Table) × RemovesJob old.out (label_of job) out
    × GainsUnit old.current.files old.current.finished job.package unit finished
    × (new ≡ record old { current = with_finished old.current finished; out = out })

-- the snapshot of the current state
abbrev pub snapshot_of : Content → Snapshot
snapshot_of m = record { number = m.current.number; limits = m.limits; files = m.current.files }

-- a state as a view shows it: its number, the paths of its packages, and for each package its unit if it is finished
abbrev pub seen : State → SeenState
seen state = record { number = state.number; packages = package_paths state.files; finished = state.finished }

-- the view of the current state: its snapshot, its finished units, how many steps undo and redo can make, and the states that it shows
abbrev pub view_of : Content → Option (List SeenState) → View
view_of m shown = record {
  snapshot = snapshot_of m;
  finished = m.current.finished;
  undo = length m.earlier;
  redo = length m.later;
  history = shown;
}

-- all states as a view shows them: those that undo reaches, the current one, and those that redo reaches
abbrev pub seen_states : Content → List SeenState
seen_states m = map seen (m.earlier ++ m.current ∷ m.later)

-- if a view shows states, they are all states
abbrev pub ShowsStates : Content → Option (List SeenState) → Type 0
ShowsStates m None = ⊤
ShowsStates m (Some shown) = shown ≡ seen_states m

-- `view` is a view of the current state, and shows all states or none
abbrev pub IsViewOf : Content → View → Type 0
IsViewOf m view = (view ≡ view_of m view.history) × ShowsStates m view.history

-- the view shows states
abbrev pub ShowsHistory : View → Type 0
ShowsHistory view = (shown : List SeenState) × (view.history ≡ Some shown)

-- the change is based on the current state: its basis is the current number, and its base the current files
abbrev pub FitsCurrent : Content → ℕ → Change → Type 0
FitsCurrent m basis change = (basis ≡ m.current.number) × (change.base ≡ m.current.files)

-- the machine of one state, which has the number 0, no files and no finished unit; no Job is out
abbrev pub opening : Limits → Machine
opening limits = record {
  limits = limits;
  earlier = [];
  current = record { number = 0; files = files.empty; finished = [] };
  later = [];
  next = 1;
  visit = 0;
  begun = 0;
  out = record { ticket = 0; jobs = [] };
  journal = [];
}
