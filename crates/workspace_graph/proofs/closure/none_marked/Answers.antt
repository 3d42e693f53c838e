-- One package more is not marked, and none is.
use Rattle.std.proofs.Common.{◌≡◌, ◌<◌, inl, inr, ℕ, false, length, get_or, sym, subst, ◌∙◌, arith}
use Rattle.std.proofs.lemmas.Bool.{cases_lt, false≢true}
use Rattle.std.proofs.lemmas.List.{get_or_default}
use Rattle.workspace_graph.specs.Search.{IsMarked}
use Rattle.workspace_graph.proofs.closure.none_marked.Goals as goal

pub loop-number-init : goal.loop-number-init
loop-number-init c = λ k below m. absurd (omega arith)

pub loop-number-preserved : goal.loop-number-preserved
loop-number-preserved c = λ k below m.
    let marks = c.args.marks.now in
    let numbers = c.args.numbers.now in
    let i = c.loop-number.number-index in
    elim (cases_lt k i) [
      | inl before ↦ c.loop-number.invariant k before m
      | inr ge ↦ (let e : k ≡ i = omega arith in
          let clear : get_or marks (get_or numbers i 0) false ≡ false = c.if-marks-number.false in
          false≢true (sym clear ∙ subst (λ (j : ℕ). IsMarked marks (get_or numbers j 0)) e m))
    ]

pub returns : goal.returns
returns c = λ t q has m.
    let numbers = c.args.numbers.now in
    let within : has.0 < length numbers = has.1 in
    let at : get_or numbers has.0 0 ≡ q = get_or_default numbers has.0 0 q within ∙ has.2 in
    c.loop-number.invariant has.0 (omega (arith, c.loop-number-test.false)) (subst (IsMarked c.args.marks.now) (sym at) m)
