-- A verdict is known on each package that was passed.
use Rattle.std.proofs.Common.{ℕ, ◌<◌}
use Rattle.build_carry.specs.Learned.{HasVerdictAt}
use Rattle.build_carry.proofs.learning.knows_each.Given as goal

abbrev pub invariant-loop-number : goal.invariant-loop-number
invariant-loop-number l = (n : ℕ) → n < l.number → HasVerdictAt l.known n
