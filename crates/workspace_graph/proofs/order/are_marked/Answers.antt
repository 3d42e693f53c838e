-- One package more is marked, and all of them are.
use Rattle.std.proofs.Common.{◌≡◌, ◌<◌, inl, inr, ℕ, length, get_or, sym, subst, ◌∙◌, arith}
use Rattle.std.proofs.lemmas.Bool.{cases_lt}
use Rattle.std.proofs.lemmas.List.{get_or_default}
use Rattle.workspace_graph.specs.Search.{IsMarked}
use Rattle.workspace_graph.proofs.order.are_marked.Goals as goal

pub loop-number-preserved : goal.loop-number-preserved
loop-number-preserved c = λ k below.
    let marks = c.args.marks.now in
    let numbers = c.args.numbers.now in
    let i = c.loop-number.number-index in
    elim (cases_lt k i) [
      | inl before ↦ c.loop-number.invariant k before
      | inr ge ↦ (let e : k ≡ i = omega arith in
          subst (λ (j : ℕ). IsMarked marks (get_or numbers j 0)) (sym e)
          (let marked : IsMarked marks (get_or numbers i 0) = c.if-not-marks-number.false in marked))
    ]

pub returns : goal.returns
returns c = λ t q has.
    let numbers = c.args.numbers.now in
    let within : has.0 < length numbers = has.1 in
    let at : get_or numbers has.0 0 ≡ q = get_or_default numbers has.0 0 q within ∙ has.2 in
    subst (IsMarked c.args.marks.now) at (c.loop-number.invariant has.0 (omega (arith, c.loop-number-test.false)))
