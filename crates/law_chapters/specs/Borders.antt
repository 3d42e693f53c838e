-- Runs over the borders of chapters: what holds within one chapter holds over borders as well.
use Rattle.std.specs.Prelude.{◌≡◌, ℕ, ◌<◌, ⊤, List, [], ◌∷◌, ◌++◌, Option, Some, None}
use Rattle.std.specs.List.{AllByRecursion}
use Rattle.base_files.specs.declared.limits.Limits.{Limits}
use Rattle.workspace_snapshot.specs.declared.change.Change.{Change}
use Rattle.history_machine.specs.Chapters.{LeadsOver, Occurrence, RunsOver}
use Rattle.history_machine.specs.Current.{UnitsAreCurrent}
use Rattle.history_machine.specs.Machine.{Machine, content, opening}
use Rattle.history_machine.specs.Run.{IsAdmitted, Restores}
use Rattle.history_machine.specs.Step.{Step}
use Rattle.history_machine.specs.declared.entry.Entry.{Entry}
use Rattle.history_machine.specs.declared.event.Event.{Event}
use Rattle.history_machine.specs.declared.event.Event.TheVariants.{Commit, Undo, Redo}
use Rattle.history_machine.specs.declared.event.Reply.{Reply}
use Rattle.history_machine.specs.declared.event.Reply.TheVariants.{Done}

-- A run over borders from the opening state leaves chapters: those that were closed, and the journal at the end.
abbrev pub RunsLeaveChapters : Type 0
RunsLeaveChapters = (limits : Limits) (course : List Occurrence) (journals : List (List Entry)) (m : Machine) →
    RunsOver (opening limits) course journals m → LeadsOver (content (opening limits)) journals m.journal (content m)

-- no change, undo or redo is admitted
abbrev pub IsQuiet : Occurrence → Type 0
IsQuiet None = ⊤
IsQuiet (Some e) = ¬ (IsAdmitted e.0 e.1)

-- Undo after an admitted change restores the state before the change, whatever borders lie between them. No change, undo or redo is
-- admitted in between.
abbrev pub UndoRestoresOverBorders : Type 0
UndoRestoresOverBorders = (start changed settled end : Machine) (basis number : ℕ) (change : Change) (between : List Occurrence)
    (journals : List (List Entry)) (reply : Reply)
    → Step start (Commit basis change) (Done number) changed
    → RunsOver changed between journals settled → AllByRecursion IsQuiet between
    → Step settled (Undo settled.current.number) reply end
    → Restores start.current settled reply end

-- So does redo after an undo with the state before the undo.
abbrev pub RedoRestoresOverBorders : Type 0
RedoRestoresOverBorders = (start undone settled end : Machine) (basis number : ℕ) (between : List Occurrence) (journals : List (List Entry)) (reply : Reply)
    → Step start (Undo basis) (Done number) undone
    → RunsOver undone between journals settled → AllByRecursion IsQuiet between
    → Step settled (Redo settled.current.number) reply end
    → Restores start.current settled reply end

-- Of two admitted changes the later has the greater number, whatever borders lie between them.
abbrev pub NumbersRiseOverBorders : Type 0
NumbersRiseOverBorders = (start changed settled end : Machine) (basis next_basis first second : ℕ) (change next_change : Change) (between : List Occurrence)
    (journals : List (List Entry))
    → Step start (Commit basis change) (Done first) changed
    → RunsOver changed between journals settled
    → Step settled (Commit next_basis next_change) (Done second) end
    → first < second

-- At the end of each run over borders each finished unit is the unit of its package in its state's whole workspace.
abbrev pub FinishedStayCurrent : Type 0
FinishedStayCurrent = (limits : Limits) (course : List Occurrence) (journals : List (List Entry)) (m : Machine) →
    RunsOver (opening limits) course journals m → UnitsAreCurrent m
