-- Each package is finished, and a look shows it; or none can be built any more.
use Rattle.std.proofs.Common.{refl}
use Rattle.history_machine.specs.declared.event.Event.TheVariants.{Look}
use Rattle.history_machine.specs.Step.{looked}
use Rattle.server_shared.proofs.CallLaws.{looked_built, stuck_lacks}
use Rattle.server_shared.proofs.StepLaws.{plain_step}
use Rattle.server_shared.proofs.locked.Locked.look_built.Goals as goal

pub returns-in-None-clause-looked : goal.returns-in-None-clause-looked
returns-in-None-clause-looked g c = (rw c.in-None.is at c.wait_end.ensures.end, refl)

pub returns-in-Some-Ok-clause-looked : goal.returns-in-Some-Ok-clause-looked
returns-in-Some-Ok-clause-looked g c =
    looked_built g.L.Opening.most c.args.self.now.book c.step.new.self.book c.step.result.0 c.step.result.1 c.args.self.now.most_is
    (rw c.in-Some-Ok.field-0-is at (rw c.in-Some-Ok.is at c.wait_end.ensures.end))
    (plain_step _ c.args.self.now.book Look (looked c.step.result.0) c.step.result.1 c.step.new.self.book refl c.step.ensures.step)

pub returns-in-Some-Err-clause-looked : goal.returns-in-Some-Err-clause-looked
returns-in-Some-Err-clause-looked g c =
    stuck_lacks g.L.Opening.most c.args.self.now.book c.in-Some-Err.refusal c.args.self.now.most_is
    c.wait_end.ensures.reached
    (rw c.in-Some-Err.field-0-is at (rw c.in-Some-Err.is at c.wait_end.ensures.end))
