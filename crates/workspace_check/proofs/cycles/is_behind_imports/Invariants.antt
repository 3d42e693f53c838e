-- The invariants of the loops of `cycles::is_behind_imports`.
use Rattle.std.proofs.Common.{ℕ, take}
use Rattle.std.specs.Prelude.{Contains}
use Rattle.workspace_check.specs.Cycles.{ComesAfter}
use Rattle.workspace_check.proofs.cycles.is_behind_imports.Given as goal

abbrev pub invariant-loop-import : goal.invariant-loop-import
invariant-loop-import l = (j : ℕ) → Contains (take l.import-index l.import-items) j → ComesAfter l.places l.numbers l.number j
