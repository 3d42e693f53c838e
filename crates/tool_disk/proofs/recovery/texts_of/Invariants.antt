-- The texts of the lines that were passed.
use Rattle.std.proofs.Common.{◌≡◌, take}
use Rattle.tool_text.specs.Journal.{bare_texts}
use Rattle.tool_disk.proofs.recovery.texts_of.Given as goal

abbrev pub invariant-loop-line : goal.invariant-loop-line
invariant-loop-line l = bare_texts l.texts.items ≡ bare_texts (take l.line-index l.lines)
