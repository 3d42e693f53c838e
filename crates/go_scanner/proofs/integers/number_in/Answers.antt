-- The answers to the goals of `integers::number_in`.
use Rattle.std.proofs.Common.{arith}
use Rattle.go_scanner.proofs.ValueLemmas.{exceeds}
use Rattle.go_scanner.proofs.integers.number_in.Goals as goal

pub returns-in-None : goal.returns-in-None
returns-in-None c = exceeds c.args.base c.loop-byte.number c.loop-byte.byte-index c.digit_value-digit.result _ c.args.bytes.now c.requires.low (omega arith)
    c.if-byte-ne95.true c.digit_value-digit.ensures.value c.in-None.ensures c.loop-byte.invariant.rest
