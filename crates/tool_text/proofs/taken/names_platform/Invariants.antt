-- The invariants of the loops of `taken::names_platform`.
use Rattle.std.proofs.Common.{◌≡◌, ◌==◌, [], drop}
use Rattle.std.specs.List.{before_first}
use Rattle.tool_text.specs.Parts.{parts, parts_left}
use Rattle.tool_text.specs.Taken.{platform_word}
use Rattle.tool_text.proofs.Cuts.{left_len}
use Rattle.tool_text.proofs.taken.names_platform.Given as goal

abbrev pub invariant-parts : goal.invariant-parts
invariant-parts l =
    platform_word [] [] (drop 1 (parts 95 (before_first (λ byte. byte == 46) l.name))) ≡ platform_word l.before l.last (parts_left 95 l.rest)

abbrev pub decreases-parts : goal.decreases-parts
decreases-parts l = left_len l.rest
