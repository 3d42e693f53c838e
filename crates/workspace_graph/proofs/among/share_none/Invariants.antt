-- None that was passed is among the others.
use Rattle.std.proofs.Common.{ℕ, take}
use Rattle.std.specs.List.{Contains}
use Rattle.workspace_graph.proofs.among.share_none.Given as goal

abbrev pub invariant-loop-number : goal.invariant-loop-number
invariant-loop-number l = (q : ℕ) → Contains (take l.number-index l.numbers) q → Contains l.others q → ⊥
