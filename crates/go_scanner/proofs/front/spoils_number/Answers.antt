-- The answers to the goals of `front::spoils_number`.
use Rattle.std.proofs.Common.{arith, sym, ◌∙◌}
use Rattle.go_scanner.proofs.AsciiLemmas.{mark_spoils}
use Rattle.go_scanner.proofs.front.spoils_number.Goals as goal

pub returns-in-len1-up : goal.returns-in-len1-up
returns-in-len1-up c = mark_spoils c.args.bytes.now (omega (arith, c.in-len1-up.len_at_least)) (sym c.is_ascii_mark.ensures ∙ c.if-is_ascii_mark.true)
