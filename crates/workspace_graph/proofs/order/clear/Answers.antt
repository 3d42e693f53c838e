-- One mark more is taken off.
use Rattle.std.proofs.Common.{◌≡◌, ◌<◌, inl, inr, ℕ, false, length, get_or, sym, subst, ◌∙◌, arith}
use Rattle.std.proofs.Math.ListN.{set}
use Rattle.std.proofs.lemmas.Bool.{cases_lt}
use Rattle.std.proofs.lemmas.List.{get_or-set_same, get_or_default, length-set}
use Rattle.workspace_graph.proofs.ListedBlocks.{clear_still}
use Rattle.workspace_graph.proofs.order.clear.Goals as goal

pub index_mut-requires : goal.index_mut-requires
index_mut-requires c =
    let lt = c.requires c.loop-number.number-index 0 c.loop-number-test.true in
    let size = c.loop-number.invariant.size in
    omega arith

pub loop-number-preserved : goal.loop-number-preserved
loop-number-preserved c =
    let marks = c.loop-number.marks.items in
    let i = c.loop-number.number-index in
    let n = get_or c.args.numbers.now i 0 in
    let lt = c.requires i 0 c.loop-number-test.true in
    let size = c.loop-number.invariant.size in
    let within : n < length marks = omega arith in
    record {
      size = length-set marks n false ∙ size;
      clear = λ k below. elim (cases_lt k i) [
        | inl before ↦ clear_still marks n (get_or c.args.numbers.now k 0) within (c.loop-number.invariant.clear k before)
        | inr ge ↦ (let e : k ≡ i = omega arith in
            subst (λ (j : ℕ). get_or (set marks n false) (get_or c.args.numbers.now j 0) false ≡ false) (sym e) (get_or-set_same marks n false false within))
      ];
    }

pub returns-clause-clear : goal.returns-clause-clear
returns-clause-clear c = λ q has.
    let numbers = c.args.numbers.now in
    let within : has.0 < length numbers = has.1 in
    let at : get_or numbers has.0 0 ≡ q = get_or_default numbers has.0 0 q within ∙ has.2 in
    subst (λ (n : ℕ). get_or c.loop-number.marks.items n false ≡ false) at
    (c.loop-number.invariant.clear has.0 (omega (arith, c.loop-number-test.false)))
