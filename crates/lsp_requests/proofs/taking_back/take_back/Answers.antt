-- The answers to the goals of `taking_back::take_back`.
use Rattle.std.proofs.Common.{◌∙◌, ap, refl, subst}
use Rattle.history_machine.specs.declared.event.Reply.TheVariants.{Done, Refused}
use Rattle.lsp_requests.specs.Committing.{way_event}
use Rattle.lsp_requests.proofs.taking_back.take_back.Goals as goal

pub returns-in-Ok : goal.returns-in-Ok
returns-in-Ok g c = (
  Done c.in-Ok.field-0,
  c.step.new.self,
  subst (λ event. g.D.Desk.steps c.args.desk.now event (Done c.in-Ok.field-0) c.step.new.self)
      (c.event_of.ensures ∙ ap (way_event c.args.way) c.number.ensures) c.in-Ok.ensures.step,
  c.told_after.ensures,
)

pub returns-in-Err : goal.returns-in-Err
returns-in-Err g c = (
  Refused c.in-Err.refusal,
  c.step.new.self,
  subst (λ event. g.D.Desk.steps c.args.desk.now event (Refused c.in-Err.refusal) c.step.new.self)
      (c.event_of.ensures ∙ ap (way_event c.args.way) c.number.ensures) c.in-Err.ensures.step,
  ((cc), refl),
)
