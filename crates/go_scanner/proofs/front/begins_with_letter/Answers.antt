-- The answers to the goals of `front::begins_with_letter`.
use Rattle.std.proofs.Common.{arith, sym, ◌∙◌}
use Rattle.go_scanner.proofs.AsciiLemmas.{ascii_begins}
use Rattle.go_scanner.proofs.front.begins_with_letter.Goals as goal

pub returns-in-len1-up : goal.returns-in-len1-up
returns-in-len1-up c = ascii_begins c.args.bytes.now (omega (arith, c.in-len1-up.len_at_least)) (sym c.is_ascii_letter.ensures ∙ c.if-is_ascii_letter.true)
