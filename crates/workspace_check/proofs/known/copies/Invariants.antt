-- The invariants of the loops of `known::copies`.
use Rattle.std.proofs.Common.{◌≡◌, length, max, take}
use Rattle.std.specs.Prelude.{vec_capacity}
use Rattle.workspace_check.proofs.known.copies.Given as goal

abbrev pub invariant-loop-verdict : goal.invariant-loop-verdict
invariant-loop-verdict l = record { items : l.copies.items ≡ take l.verdict-index l.verdicts; room : vec_capacity l.copies ≡ max l.room (length l.verdicts) }
