-- The code of entries, by which proofs decide whether two entries are equal.
use Rattle.std.specs.Coded.{Coded}
use Rattle.history_machine.specs.declared.entry.Entry.{Entry}
use Rattle.history_machine.specs.contracts.entry.Entry.{the_row}

-- the code of an entry, part by part
pub entry_code : Coded Entry
entry_code = the_row.coded
