-- Chapters: the journal is closed now and then, and begins anew, while all else goes on.
use Rattle.std.specs.Prelude.{◌≡◌, ◌+◌, List, [], ◌∷◌, ◌++◌, Option, Some, None, length}
use Rattle.history_machine.specs.declared.entry.Entry.{Entry}
use Rattle.history_machine.specs.declared.event.Event.{Event}
use Rattle.history_machine.specs.declared.event.Reply.{Reply}
use Rattle.history_machine.specs.Machine.{Content, Machine, closed, opening, with_journal}
use Rattle.history_machine.specs.Run.{Run}
use Rattle.history_machine.specs.Step.{Step}

-- What happens next in a history: an event gets a reply, or, where there is none, the journal is closed.
abbrev pub Occurrence : Type 0
Occurrence = Option (Event × Reply)

-- From old, the machine may answer these events and close its journal, in order, and become new. Meanwhile it closes these journals.
abbrev pub RunsOver : Machine → List Occurrence → List (List Entry) → Machine → Type 0
RunsOver old [] journals new = (journals ≡ []) × (new ≡ old)
RunsOver old (None ∷ course) journals new =
    (later : List (List Entry)) × (journals ≡ old.journal ∷ later) × RunsOver (closed old) course later new
RunsOver old (Some e ∷ course) journals new = (mid : Machine) × Step old e.0 e.1 mid × RunsOver mid course journals new

-- The machine is what some run over borders makes of the opening state, with its limits.
abbrev pub HasHistory : Machine → Type 0
HasHistory m = (course : List Occurrence) × (journals : List (List Entry)) × RunsOver (opening m.limits) course journals m

-- The journal is a chapter that begins with one content and ends with the other: some run that begins without entries leads to both. The
-- journal has exactly the entries of that run's events, in their order.
abbrev pub IsChapter : Content → List Entry → Content → Type 0
IsChapter start journal end = (events : List (Event × Reply)) × Run (with_journal start []) events (with_journal end journal)

-- the content with which the next chapter begins, where this journal is closed
abbrev pub after_chapter : Content → List Entry → Content
after_chapter end journal = record end { begun = end.begun + length journal }

-- The journals are chapters that were closed one after the other. Each begins with what the one before it left.
abbrev pub AreClosed : Content → List (List Entry) → Content → Type 0
AreClosed start [] end = end ≡ start
AreClosed start (journal ∷ journals) end = (mid : Content) × IsChapter start journal mid × AreClosed (after_chapter mid journal) journals end

-- The history leads from the one content to the other over chapters that were closed and a last one, which is open.
abbrev pub LeadsOver : Content → (journals : List (List Entry)) → (last : List Entry) → Content → Type 0
LeadsOver start journals last end = (mid : Content) × AreClosed start journals mid × IsChapter mid last end

-- all entries of the journals, in their order
abbrev pub all_entries : List (List Entry) → List Entry
all_entries [] = []
all_entries (journal ∷ journals) = journal ++ all_entries journals
