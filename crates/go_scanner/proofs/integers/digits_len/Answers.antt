-- The answers to the goals of `integers::digits_len`.
use Rattle.std.proofs.Common.{length, arith, ap, length-drop}
use Rattle.std.proofs.lemmas.List.{take_rest}
use Rattle.go_scanner.proofs.IntegerLemmas.{digits_step_at, digits_end_at}
use Rattle.go_scanner.proofs.integers.digits_len.Goals as goal

pub loop-base-preserved : goal.loop-base-preserved
loop-base-preserved c =
    let part = take_rest c.args.bytes.now c.loop-base.n in
    record {
      fits = omega (arith, c.digit_len-size.ensures.fits, ap length part, length-drop c.loop-base.n c.args.bytes.now);
      rest = digits_step_at c.args.base c.args.bytes.now _ c.loop-base.n c.digit_len-size.result part c.digit_len-size.ensures.value (omega arith)
          c.loop-base.invariant.rest;
    }

pub returns-then-size-eq0-clause-value : goal.returns-then-size-eq0-clause-value
returns-then-size-eq0-clause-value c =
    digits_end_at c.args.base c.args.bytes.now _ c.loop-base.n c.digit_len-size.result (take_rest c.args.bytes.now c.loop-base.n)
    c.digit_len-size.ensures.value c.if-size-eq0.true c.loop-base.invariant.rest
