-- The answers to the goals of `strings::parts_end`.
use Rattle.std.proofs.Common.{sym, ◌∙◌, arith}
use Rattle.std.proofs.lemmas.List.{take_rest}
use Rattle.go_scanner.proofs.StringLemmas.{string_opens, string_grows, string_ends}
use Rattle.go_scanner.proofs.strings.parts_end.Goals as goal

pub loop-n-init : goal.loop-n-init
loop-n-init c = string_opens c.args.bytes.now c.requires.some c.requires.first

pub loop-n-preserved : goal.loop-n-preserved
loop-n-preserved c = string_grows c.args.bytes.now _ c.loop-n.n c.part_len-size.result c.loop-n.invariant (take_rest c.args.bytes.now c.loop-n.n)
    c.part_len-size.ensures.value (omega arith) c.part_len-size.ensures.fits

pub returns-then-size-eq0 : goal.returns-then-size-eq0
returns-then-size-eq0 c = string_ends c.args.bytes.now _ c.loop-n.n c.loop-n.invariant (take_rest c.args.bytes.now c.loop-n.n)
    (sym c.if-size-eq0.true ∙ c.part_len-size.ensures.value)
