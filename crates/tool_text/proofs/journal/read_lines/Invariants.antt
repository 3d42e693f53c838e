-- The invariants of the loops of `journal::read_lines`.
use Rattle.std.proofs.Common.{◌≡◌, ◌++◌}
use Rattle.tool_text.specs.Journal.{bare_texts}
use Rattle.tool_text.specs.Parts.{parts, parts_left}
use Rattle.tool_text.proofs.Cuts.{left_len}
use Rattle.tool_text.proofs.journal.read_lines.Given as goal

abbrev pub invariant-reading : goal.invariant-reading
invariant-reading l = bare_texts l.lines.items ++ parts_left 10 l.rest ≡ parts 10 l.text

abbrev pub decreases-reading : goal.decreases-reading
decreases-reading l = left_len l.rest
