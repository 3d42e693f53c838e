-- The answers to the goals of `texts::del_now`.
use Rattle.std.proofs.Common.{inr, refl}
use Rattle.history_machine.specs.declared.event.Reply.TheVariants.{Looked, Refused}
use Rattle.lsp_requests.proofs.texts.del_now.Goals as goal

pub returns-in-Ok : goal.returns-in-Ok
returns-in-Ok g c =
    (c.in-Ok.view.snapshot.number, (Looked c.in-Ok.view, c.look.new.self, c.in-Ok.ensures.step, inr (refl, c.del_seen.ensures)))

pub returns-in-Err : goal.returns-in-Err
returns-in-Err g c = (0, (Refused c.in-Err.refusal, c.look.new.self, c.in-Err.ensures.step, (refl, refl)))
