-- One package more, and all of them at the end.
use Rattle.std.proofs.Common.{◌≡◌, ◌<◌, ◌+◌, inl, inr, subst, arith}
use Rattle.std.proofs.lemmas.Bool.{cases_lt}
use Rattle.build_carry.specs.Learned.{HasVerdictAt}
use Rattle.build_carry.proofs.learning.knows_each.Goals as goal

pub loop-number-init : goal.loop-number-init
loop-number-init c = λ n lt. let none : n < 0 = lt in absurd (omega (arith, none))

pub loop-number-preserved : goal.loop-number-preserved
loop-number-preserved c = λ n lt. elim (cases_lt n c.loop-number.number) [
  | inl before ↦ c.loop-number.invariant n before
  | inr past ↦ (
      let below : n < c.loop-number.number + 1 = lt in
      let e : c.loop-number.number ≡ n = omega (arith, below, past) in
      subst (HasVerdictAt c.args.known.now) e (c.knows.ensures.0 c.if-not-knows.false))
]

pub returns : goal.returns
returns c = λ t n lt.
    let end : c.loop-number.number ≡ c.args.count = omega arith in
    c.loop-number.invariant n (omega (arith, lt, end))
