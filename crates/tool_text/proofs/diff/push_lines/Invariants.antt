-- The invariants of the loops of `diff::push_lines`.
use Rattle.std.proofs.Common.{◌≡◌, ◌++◌, [], drop}
use Rattle.tool_text.specs.Diff.{hunk_lines}
use Rattle.tool_text.proofs.diff.push_lines.Given as goal

-- what is written so far, and the lines that are left behind those that wait
abbrev pub invariant-loop-pair : goal.invariant-loop-pair
invariant-loop-pair l =
    l.text.items ++ hunk_lines l.removed.items l.added.items (drop l.pair-index l.pairs) ≡ l.fn.text.items ++ hunk_lines [] [] l.pairs
