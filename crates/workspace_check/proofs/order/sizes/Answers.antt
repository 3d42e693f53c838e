-- The answers to the goals of `order::sizes`.
use Rattle.std.proofs.Common.{ap, arith}
use Rattle.std.specs.Prelude.{length}
use Rattle.workspace_check.proofs.Sizes.{next_size}
use Rattle.workspace_check.proofs.order.sizes.Goals as goal

pub loop-number-init : goal.loop-number-init
loop-number-init c = record { size = ap length c.new-sizes.ensures.items; each = λ i p lt at. absurd (omega arith) }

pub loop-number-preserved : goal.loop-number-preserved
loop-number-preserved c =
    let closure = c.in_ok-closure.closure in
    next_size c.args.graph.now c.loop-number.sizes.items c.push.new.self.items c.loop-number.number (length c.as_slice.result.now)
    c.in_ok-push.ensures.items c.loop-number.invariant
    (λ p at. record {
      numbers = closure;
      rising = c.in_ok-closure.ensures.rising;
      holds = c.in_ok-closure.ensures.closure p at;
      is = ap length c.as_slice.ensures;
    })
