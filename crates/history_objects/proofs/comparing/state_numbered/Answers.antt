-- The state at hand is not the one, and none before it.
use Rattle.std.proofs.Common.{◌≡◌, ℕ, inl, inr, get_or, sym, subst, ◌∙◌, arith}
use Rattle.std.proofs.lemmas.Bool.{cases_lt, false≢true}
use Rattle.std.proofs.lemmas.Option.{same_Some, slice_get-get_or}
use Rattle.history_machine.specs.declared.seen_state.SeenState.{SeenState}
use Rattle.history_objects.proofs.comparing.state_numbered.Goals as goal

pub loop-state-preserved : goal.loop-state-preserved
loop-state-preserved c = λ k below s at e. elim (cases_lt k c.loop-state.state-index) [
  | inl before ↦ c.loop-state.invariant k before s at e
  | inr ge ↦ (
      let states = c.args.states.now in
      let i = c.loop-state.state-index in
      let here : SeenState = c.state-item.result in
      let lt = c.loop-state-test.true in
      let same : k ≡ i = omega (arith, below, ge) in
      let there : get_or states i s ≡ s = subst (λ (n : ℕ). get_or states n s ≡ s) same at in
      let is : s ≡ here = sym there ∙ same_Some (get_or states i s) (get_or states i here)
      (sym (slice_get-get_or states i s lt) ∙ slice_get-get_or states i here lt) ∙ sym c.state-item.is in
      false≢true (sym c.if-has_number.false ∙ c.has_number.ensures.1 (subst (λ (x : SeenState). x.number ≡ c.args.number) is e)))
]

pub returns : goal.returns
returns c = λ s h. c.loop-state.invariant h.0.0 (omega (arith, h.0.1, c.loop-state-test.false)) s h.0.2 h.1
