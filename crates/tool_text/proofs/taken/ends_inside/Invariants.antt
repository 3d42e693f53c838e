-- The invariants of the loops of `taken::ends_inside`.
use Rattle.std.proofs.Common.{◌≡◌, ◌-◌, ◌≤◌, drop, length}
use Rattle.tool_text.specs.Taken.{ends_inside}
use Rattle.tool_text.proofs.taken.ends_inside.Given as goal

abbrev pub invariant-bytes : goal.invariant-bytes
invariant-bytes l = record {
  within : l.at ≤ length l.line;
  same : ends_inside l.fn.inside l.line ≡ ends_inside l.inside (drop l.at l.line);
}

abbrev pub decreases-bytes : goal.decreases-bytes
decreases-bytes l = length l.line - l.at
