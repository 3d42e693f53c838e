-- The answers to the goals of `underlying::step_order`.
use Rattle.std.proofs.Common.{subst, sym, ◌∙◌}
use Rattle.std.proofs.lemmas.Result.{IfOk-weaker}
use Rattle.types_members.specs.Steps.{AreStepLinks}
use Rattle.types_members.proofs.Steps.{links_within, ends_size, step_order}
use Rattle.types_members.proofs.underlying.step_order.Goals as goal

pub reached_in_order-requires-clause-linked : goal.reached_in_order-requires-clause-linked
reached_in_order-requires-clause-linked c =
    links_within c.args.steps.now c.deref.result.now (subst (AreStepLinks c.args.steps.now) (sym c.deref.ensures.value) c.in_ok-links.ensures)

pub reached_in_order-requires-clause-size : goal.reached_in_order-requires-clause-size
reached_in_order-requires-clause-size c =
    ends_size c.args.steps.now c.deref.result.now c.deref-2.result.now
    (subst (AreStepLinks c.args.steps.now) (sym c.deref.ensures.value) c.in_ok-links.ensures) (c.deref-2.ensures.value ∙ c.in_ok-ends.ensures)

pub returns : goal.returns
returns c =
    IfOk-weaker c.reached_in_order.result _ _
    (λ order h. step_order c.args.steps.now c.deref.result.now c.deref-2.result.now order.items
    (subst (AreStepLinks c.args.steps.now) (sym c.deref.ensures.value) c.in_ok-links.ensures)
    (c.deref-2.ensures.value ∙ c.in_ok-ends.ensures) h) c.reached_in_order.ensures
