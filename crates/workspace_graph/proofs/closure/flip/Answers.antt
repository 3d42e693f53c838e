-- One mark more is flipped.
use Rattle.std.proofs.Common.{◌≡◌, ℕ, ◌<◌, inl, inr, false, not, length, get_or, sym, ap, subst, ◌∙◌, arith}
use Rattle.std.proofs.Math.ListN.{set}
use Rattle.std.proofs.lemmas.Bool.{cases_eq}
use Rattle.std.proofs.lemmas.List.{get_or-set_same, get_or-set_other, get_or_read, length-set}
use Rattle.workspace_graph.proofs.closure.flip.Goals as goal

pub loop-number-preserved : goal.loop-number-preserved
loop-number-preserved c =
    let inv = c.loop-number.invariant in
    let marks = c.loop-number.marks.items in
    let old = c.args.marks.now.items in
    let n = c.loop-number.number in
    let b = c.index.result.now in
    let within : n < length marks = omega (arith, inv.size) in
    let read : b ≡ get_or marks n false = get_or_read marks n b within c.index.ensures false in
    record {
      size = length-set marks n (not b) ∙ inv.size;
      passed = λ q lt. elim (cases_eq q n) [
        | inl e ↦ subst (λ (k : ℕ). get_or (set marks n (not b)) k false ≡ not (get_or old k false)) (sym e)
            (get_or-set_same marks n (not b) false within ∙ ap not (read ∙ inv.left n (omega arith)))
        | inr ne ↦ get_or-set_other marks n q (not b) false ne ∙ inv.passed q (omega arith)
      ];
      left = λ q le. get_or-set_other marks n q (not b) false (λ e. absurd (omega arith)) ∙ inv.left q (omega arith);
    }

pub returns : goal.returns
returns c =
    let inv = c.loop-number.invariant in
    record { size = inv.size; each = λ q lt. inv.passed q (omega (arith, c.loop-number-test.false, c.loop-number.auto.number-end)) }
