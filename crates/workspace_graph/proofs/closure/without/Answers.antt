-- One number further, and all at the end.
use Rattle.std.proofs.Common.{ℕ, ◌≡◌, ◌↔◌, List, get_or, take, refl, sym, subst, arith}
use Rattle.std.specs.List.{Contains}
use Rattle.std.proofs.lemmas.List.{take_all}
use Rattle.workspace_graph.proofs.BelowAlone.{IsWithout, without_more, without_none, without_skip}
use Rattle.workspace_graph.proofs.closure.without.Goals as goal
use Rattle.workspace_graph.proofs.closure.without.Goals.{then-number-one+in_ok-push, else-number-one}

pub loop-number-init : goal.loop-number-init
loop-number-init c = without_none c.args.numbers.now c.args.one c.in_ok-rest.rest.items c.in_ok-rest.ensures.items

pub loop-number-preserved : goal.loop-number-preserved
loop-number-preserved c =
    let ns = c.args.numbers.now in
    let k = c.loop-number.number-index in
    let rest = c.loop-number.rest.items in
    let so = c.loop-number.invariant in
    elim c.if-number-one.branch [
      | then-number-one+in_ok-push w ↦ rw (w.rest-is, w.in_ok-push.ensures.items)
          (without_more ns c.args.one k rest (get_or ns k 0) c.requires c.loop-number-test.true refl w.if-number-one.true so)
      | else-number-one w ↦ rw w.rest-is (without_skip ns c.args.one k rest (get_or ns k 0) c.loop-number-test.true refl w.if-number-one.false so)
    ]

pub returns : goal.returns
returns c =
    let ns = c.args.numbers.now in
    let one : ℕ = c.args.one in
    let k = c.loop-number.number-index in
    let rest = c.from_numbers.result in
    let full : take k ns ≡ ns = take_all k ns (omega (arith, c.loop-number-test.false)) in
    let so : IsWithout ns one k rest = subst (λ (l : List ℕ). IsWithout ns one k l) (sym c.from_numbers.ensures) c.loop-number.invariant in
    record {
      each = λ q. subst (λ (l : List ℕ). Contains rest q ↔ (Contains l q × (q ≡ one → ⊥))) full (so.each q);
      rising = so.rising;
    }
