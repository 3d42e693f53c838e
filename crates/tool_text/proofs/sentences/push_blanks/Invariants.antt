-- The invariants of the loops of `sentences::push_blanks`.
use Rattle.std.proofs.Common.{◌≡◌, ◌++◌, take}
use Rattle.tool_text.specs.Sentences.{blanks}
use Rattle.tool_text.proofs.sentences.push_blanks.Given as goal

-- what stands below the bytes so far
abbrev pub invariant-loop-byte : goal.invariant-loop-byte
invariant-loop-byte l = l.text.items ≡ l.fn.text.items ++ blanks (take l.byte-index l.before)
