-- Each entry of the new table is right, or it still comes.
use Rattle.std.specs.Prelude.{ℕ, List}
use Rattle.refactor_known.specs.Tables.{entry_at}
use Rattle.refactor_known.proofs.Entries.{IsSoFar, finds}
use Rattle.refactor_known.proofs.tables.moved_table.Given as goal

abbrev pub invariant-loop-name : goal.invariant-loop-name
invariant-loop-name g l = (name : List ℕ) → IsSoFar (g.T.Movable.moves l.swap) (entry_at l.old name) (entry_at l.table name) (finds name l.name-iterator)
