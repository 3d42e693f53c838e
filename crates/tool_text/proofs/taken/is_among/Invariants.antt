-- The invariants of the loops of `taken::is_among`.
use Rattle.std.proofs.Common.{◌≡◌, ◌==◌}
use Rattle.std.specs.List.{list_any}
use Rattle.std.specs.Cmp.Lexicographic.{pointwise}
use Rattle.tool_text.specs.Parts.{parts_left}
use Rattle.tool_text.specs.Taken.{is_among}
use Rattle.tool_text.proofs.Cuts.{left_len}
use Rattle.tool_text.proofs.taken.is_among.Given as goal

abbrev pub invariant-words : goal.invariant-words
invariant-words l = is_among l.word l.words ≡ list_any (λ other. pointwise ◌==◌ other l.word) (parts_left 32 l.rest)

abbrev pub decreases-words : goal.decreases-words
decreases-words l = left_len l.rest
