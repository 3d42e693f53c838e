-- The answers to the goals of `ready::declares_one`.
use Rattle.std.proofs.Common.{◌≡◌, ℕ, List, inl, inr, refl, sym, ap, subst, ◌∙◌, arith}
use Rattle.std.specs.List.{Contains}
use Rattle.std.proofs.lemmas.Bool.{false≢true}
use Rattle.std.proofs.lemmas.List.{take_all}
use Rattle.base_lemmas.proofs.Elements.{nothing_in}
use Rattle.workspace_graph.proofs.Collected.{more_cases}
use Rattle.build_names.specs.Words.{NameChange}
use Rattle.build_kept.proofs.ready.declares_one.Goals as goal

pub loop-given-init : goal.loop-given-init
loop-given-init c = λ d has there. nothing_in d has

pub loop-given-preserved : goal.loop-given-preserved
loop-given-preserved c = λ d has there.
    let one = c.given-item.result in
    elim (more_cases c.args.names.now c.loop-given.given-index one d c.loop-given-test.true has) [
      | inl old ↦ c.loop-given.invariant d old there
      | inr same ↦ (
          let e : one ≡ d = c.given-item.is ∙ same in
          false≢true (sym c.if-is_given_in.false ∙ c.is_given_in.ensures.1 (ap (λ (x : NameChange). x.path) e ∙ there)))
    ]

pub returns-then-is_given_in : goal.returns-then-is_given_in
returns-then-is_given_in c = (
  λ t. (c.given-item.result, ((c.loop-given.given-index, c.loop-given-test.true, sym c.given-item.is), c.is_given_in.ensures.0 c.if-is_given_in.true)),
  λ declares. refl,
)

pub returns : goal.returns
returns c = (
  λ t. absurd (false≢true t),
  λ declares. absurd (c.loop-given.invariant declares.0 (subst (λ (l : List NameChange). Contains l declares.0)
      (sym (take_all c.loop-given.given-index c.args.names.now (omega (arith, c.loop-given-test.false)))) declares.1.0) declares.1.1),
)
