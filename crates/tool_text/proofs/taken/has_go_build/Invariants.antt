-- The invariants of the loops of `taken::has_go_build`.
use Rattle.std.proofs.Common.{◌≡◌, false, Some}
use Rattle.tool_text.specs.Parts.{parts, parts_left}
use Rattle.tool_text.specs.Taken.{has_go_build}
use Rattle.tool_text.proofs.Cuts.{left_len}
use Rattle.tool_text.proofs.taken.has_go_build.Given as goal

abbrev pub invariant-lines : goal.invariant-lines
invariant-lines l = has_go_build (Some false) (parts 10 l.text) ≡ has_go_build (Some l.inside) (parts_left 10 l.rest)

abbrev pub decreases-lines : goal.decreases-lines
decreases-lines l = left_len l.rest
