-- How many entries an event needs room for.
use Rattle.std.specs.Prelude.{ℕ, Bool, true, false}
use Rattle.history_machine.specs.declared.entry.EntryKind.{EntryKind}
use Rattle.history_machine.specs.declared.entry.EntryKind.TheVariants as kind
use Rattle.history_book.specs.declared.question.Asked.{Asked}

-- For how many entries an event of this kind needs room. The entry of a Job that is out is due already. A Take needs room for two: its own,
-- and that of its Job.
abbrev pub entries_for : Bool → EntryKind → ℕ
entries_for true other = 0
entries_for false kind.Take = 2
entries_for false other = 1

-- for how many entries the event needs room, beside those that are due
abbrev pub entries_needed : Asked → ℕ
entries_needed asked = entries_for asked.is_out asked.kind
