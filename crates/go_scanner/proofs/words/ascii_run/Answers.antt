-- The answers to the goals of `words::ascii_run`.
use Rattle.std.proofs.Common.{sym, ◌∙◌}
use Rattle.go_scanner.proofs.AsciiLemmas.{ascii_grows}
use Rattle.go_scanner.proofs.WordLemmas.{run_empty}
use Rattle.go_scanner.proofs.words.ascii_run.Goals as goal

pub loop-n-init : goal.loop-n-init
loop-n-init c = run_empty c.args.bytes.now

pub loop-n-preserved : goal.loop-n-preserved
loop-n-preserved c = ascii_grows c.args.bytes.now c.loop-n.n c.loop-n.invariant c.loop-n-test.true (sym c.is_ascii_word.ensures ∙ c.if-is_ascii_word.true)
