-- One number further, and all at the end.
use Rattle.std.proofs.Common.{ℕ, List, inl, inr, sym, subst, ◌∙◌, arith}
use Rattle.std.specs.List.{Contains}
use Rattle.std.proofs.lemmas.Bool.{false≢true}
use Rattle.std.proofs.lemmas.List.{take_all}
use Rattle.base_lemmas.proofs.Elements.{nothing_in}
use Rattle.workspace_graph.proofs.Collected.{more_cases}
use Rattle.workspace_graph.proofs.among.share_none.Goals as goal

pub loop-number-init : goal.loop-number-init
loop-number-init c = λ q has there. nothing_in q has

pub loop-number-preserved : goal.loop-number-preserved
loop-number-preserved c = λ q has there.
    elim (more_cases c.args.numbers.now c.loop-number.number-index 0 q c.loop-number-test.true has) [
      | inl old ↦ c.loop-number.invariant q old there
      | inr same ↦ false≢true (sym c.if-is_among.false ∙ c.is_among.ensures.1 (subst (Contains c.args.others.now) (sym same) there))
    ]

pub returns : goal.returns
returns c = λ _ q has there.
    c.loop-number.invariant q (subst (λ (l : List ℕ). Contains l q)
    (sym (take_all c.loop-number.number-index c.args.numbers.now (omega (arith, c.loop-number-test.false)))) has) there
