-- Changes that are asked for.
use Rattle.std.specs.Prelude.{ℕ}
use Rattle.history_records.specs.declared.change.AskedChange.{AskedChange}
use Rattle.history_records.specs.declared.change.AskedChange.TheVariants as asked
use Rattle.history_records.specs.declared.change.KeptChange.{KeptChange}
use Rattle.history_records.specs.declared.change.KeptChange.TheVariants.{Commit, Undo, Redo}

-- the change that is asked for
abbrev pub kept_of : AskedChange → KeptChange
kept_of (asked.Commit basis edits) = Commit basis edits.now
kept_of (asked.Undo basis) = Undo basis
kept_of (asked.Redo basis) = Redo basis

-- the number of the state for which a change is meant
abbrev pub basis_of : KeptChange → ℕ
basis_of (Commit basis edits) = basis
basis_of (Undo basis) = basis
basis_of (Redo basis) = basis
