-- The invariants of the loops of `journal::push_lines`.
use Rattle.std.proofs.Common.{◌≡◌, ◌++◌, take}
use Rattle.tool_text.specs.Journal.{lines_text}
use Rattle.tool_text.proofs.journal.push_lines.Given as goal

abbrev pub invariant-loop-line : goal.invariant-loop-line
invariant-loop-line l = l.text.items ≡ l.fn.text.items ++ lines_text (take l.line-index l.lines)
