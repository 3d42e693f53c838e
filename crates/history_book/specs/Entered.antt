-- The entry that an answered event leaves in the journal.
use Rattle.std.specs.Prelude.{ℕ, List, [], ◌∷◌, ◌++◌, Option, Some, None}
use Rattle.base_edits.specs.EditSet.{FileChanges}
use Rattle.history_book.specs.declared.question.Asked.{Asked}
use Rattle.history_machine.specs.declared.entry.Entry.{Entry}
use Rattle.history_machine.specs.declared.entry.Told.{Told}

-- The entry of an event, from what was known before the answer, the outcome, the subject and the edits. There is none without an outcome.
abbrev pub entry_left : Asked → Option Told → Option ℕ → Option FileChanges → Option Entry
entry_left asked None subject edits = None
entry_left asked (Some out) subject edits =
    Some (record { line = record { kind = asked.kind; basis = asked.basis; out = out }; subject = subject; edits = edits })

-- the journal with this entry added, if there is one
abbrev pub with_entry : List Entry → Option Entry → List Entry
with_entry journal None = journal
with_entry journal (Some entry) = journal ++ entry ∷ []
