-- The answers to the goals of `faults::faults_now`.
use Rattle.std.proofs.Common.{refl}
use Rattle.history_machine.specs.declared.event.Reply.TheVariants.{Looked, Refused}
use Rattle.lsp_requests.proofs.faults.faults_now.Goals as goal

pub returns-in-Ok : goal.returns-in-Ok
returns-in-Ok g c =
    (Looked c.in-Ok.view, c.look.new.self, c.in-Ok.ensures.step, (c.faults_seen.ensures.faults, c.faults_seen.ensures.same))

pub returns-in-Err : goal.returns-in-Err
returns-in-Err g c = (Refused c.in-Err.refusal, c.look.new.self, c.in-Err.ensures.step, (refl, refl))
