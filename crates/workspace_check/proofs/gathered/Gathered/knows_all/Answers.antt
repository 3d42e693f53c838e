-- The answers to the goals of `gathered::Gathered::knows_all`.
use Rattle.std.proofs.Common.{◌≡◌, inl, inr, sym, subst, arith}
use Rattle.std.proofs.lemmas.Bool.{cases_lt}
use Rattle.workspace_check.specs.Steps.{IsGathered}
use Rattle.workspace_check.proofs.gathered.Gathered.knows_all.Goals as goal

pub loop-number-preserved : goal.loop-number-preserved
loop-number-preserved c = λ n lt.
    let k = c.loop-number.number in
    elim (cases_lt n k) [
      | inl before ↦ c.loop-number.invariant n before
      | inr past ↦ (
          let e : n ≡ k = omega arith in
          subst (IsGathered c.args.self.now.findings.items) (sym e) (c.knows.ensures.0 c.if-not-knows.false))
    ]

pub returns : goal.returns
returns c = λ t n lt. c.loop-number.invariant n (omega (arith, lt, c.loop-number-test.false, c.args.self.now.findings.ok.0))
