-- The changes of a history, and the states that they make.
use Rattle.std.specs.Prelude.{◌≡◌, ℕ, List, [], ◌++◌, Option, Some, None, map, option_to_list}
use Rattle.std.specs.List.{filter_map}
use Rattle.base_files.specs.Workspace.{Workspace}
use Rattle.base_files.specs.declared.limits.Limits.{Limits}
use Rattle.history_machine.specs.Chapters.{Occurrence, RunsOver}
use Rattle.history_machine.specs.Machine.{Content, Machine, closed, content, opening}
use Rattle.history_machine.specs.State.{State}
use Rattle.history_machine.specs.Step.{Step}
use Rattle.history_machine.specs.declared.entry.Entry.{Entry}
use Rattle.history_machine.specs.declared.event.Event.{Event}
use Rattle.history_machine.specs.declared.event.Event.TheVariants as event
use Rattle.history_machine.specs.declared.event.Reply.{Reply}
use Rattle.history_machine.specs.declared.event.Reply.TheVariants.{Done}
use Rattle.history_records.specs.declared.change.KeptChange.{KeptChange}
use Rattle.history_records.specs.declared.change.KeptChange.TheVariants as kept

-- the change for which an event asks: a commit, an undo or a redo; any other event asks for none
abbrev pub change_asked : Event → Option KeptChange
change_asked (event.Commit basis change) = Some (kept.Commit basis change.edits)
change_asked (event.Undo basis) = Some (kept.Undo basis)
change_asked (event.Redo basis) = Some (kept.Redo basis)
change_asked asked = None

-- the change that an event with this reply is: the one for which it asks, if it was done
abbrev pub change_done : Reply → Event → Option KeptChange
change_done (Done number) asked = change_asked asked
change_done reply asked = None

-- the change that happens, if it is one; closing the journal is none
abbrev pub change_among : Occurrence → Option KeptChange
change_among None = None
change_among (Some e) = change_done e.1 e.0

-- the changes among what happens, in their order
abbrev pub changes_among : List Occurrence → List KeptChange
changes_among course = filter_map change_among course

-- Some history leads to the machine from the opening state with these limits. These are its changes, in their order.
abbrev pub HasChanges : Limits → List KeptChange → Machine → Type 0
HasChanges limits changes m =
    (course : List Occurrence) × (journals : List (List Entry)) × RunsOver (opening limits) course journals m × (changes_among course ≡ changes)

-- a state's number and its files
abbrev pub state_kept : State → ℕ × Workspace
state_kept s = (s.number, s.files)

-- What changes make of a history: its states, without their finished packages, with the cursor on the current one, and the next number.
pub record KeptStates : Type 0 where
  pub limits : Limits
  pub earlier : List (ℕ × Workspace)
  pub current : ℕ × Workspace
  pub later : List (ℕ × Workspace)
  pub next : ℕ

abbrev pub states_kept : Content → KeptStates
states_kept c = record {
  limits = c.limits;
  earlier = map state_kept c.earlier;
  current = state_kept c.current;
  later = map state_kept c.later;
  next = c.next;
}

-- Two histories with the same changes have the same states, in the same order and with the same numbers, and the same one is current.
abbrev pub SameChangesSameStates : Type 0
SameChangesSameStates = (limits : Limits) (changes : List KeptChange) (m n : Machine) → HasChanges limits changes m → HasChanges limits changes n →
    states_kept (content m) ≡ states_kept (content n)

-- A history has no changes at first.
abbrev pub NoChangesAtFirst : Type 0
NoChangesAtFirst = (limits : Limits) → HasChanges limits [] (opening limits)

-- A history that goes on with an event gains the change that the event is, if it is one.
abbrev pub ChangesGoOn : Type 0
ChangesGoOn = (limits : Limits) (changes : List KeptChange) (old new : Machine) (asked : Event) (reply : Reply) → HasChanges limits changes old →
    Step old asked reply new → HasChanges limits (changes ++ option_to_list (change_done reply asked)) new

-- A history whose journal is closed gains no change.
abbrev pub ChangesGoOnOverBorders : Type 0
ChangesGoOnOverBorders = (limits : Limits) (changes : List KeptChange) (m : Machine) → HasChanges limits changes m → HasChanges limits changes (closed m)
