-- The invariants of the loops of `go_mod::comment_start`.
use Rattle.std.proofs.Common.{◌≡◌, ◌+◌, ◌-◌, ◌≤◌, drop, length}
use Rattle.tool_text.specs.GoMod.{comment_start}
use Rattle.tool_text.proofs.go_mod.comment_start.Given as goal

abbrev pub invariant-loop-at : goal.invariant-loop-at
invariant-loop-at l = record {
  within : l.at ≤ length l.line;
  passed : comment_start l.line ≡ l.at + comment_start (drop l.at l.line);
}

abbrev pub decreases-loop-at : goal.decreases-loop-at
decreases-loop-at l = length l.line - l.at
