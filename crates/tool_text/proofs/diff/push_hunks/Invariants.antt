-- The invariants of the loops of `diff::push_hunks`.
use Rattle.std.proofs.Common.{◌≡◌, ◌++◌, take}
use Rattle.tool_text.specs.Diff.{hunks_text}
use Rattle.tool_text.proofs.diff.push_hunks.Given as goal

-- the hunks so far
abbrev pub invariant-loop-hunk : goal.invariant-loop-hunk
invariant-loop-hunk l = l.text.items ≡ l.fn.text.items ++ hunks_text l.pairs (take l.hunk-index l.hunks)
