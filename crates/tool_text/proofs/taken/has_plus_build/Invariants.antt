-- The invariants of the loops of `taken::has_plus_build`.
use Rattle.std.proofs.Common.{◌≡◌, false}
use Rattle.tool_text.specs.Parts.{parts, parts_left}
use Rattle.tool_text.specs.Taken.{has_plus_build}
use Rattle.tool_text.proofs.Cuts.{left_len}
use Rattle.tool_text.proofs.taken.has_plus_build.Given as goal

abbrev pub invariant-lines : goal.invariant-lines
invariant-lines l = has_plus_build false (parts 10 l.text) ≡ has_plus_build l.seen (parts_left 10 l.rest)

abbrev pub decreases-lines : goal.decreases-lines
decreases-lines l = left_len l.rest
