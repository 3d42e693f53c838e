-- The invariants of the loops of `gathered::Gathered::knows_all`.
use Rattle.std.proofs.Common.{ℕ, ◌<◌}
use Rattle.workspace_check.specs.Steps.{IsGathered}
use Rattle.workspace_check.proofs.gathered.Gathered.knows_all.Given as goal

abbrev pub invariant-loop-number : goal.invariant-loop-number
invariant-loop-number l = (n : ℕ) → n < l.number → IsGathered l.self.findings.items n
