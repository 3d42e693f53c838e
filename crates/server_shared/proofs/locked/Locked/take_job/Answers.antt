-- A Job is taken, or memory is wanting, exactly where a worker may take one.
use Rattle.std.proofs.Common.{sym, refl, ◌∙◌}
use Rattle.std.proofs.lemmas.Bool.{false≢true}
use Rattle.history_machine.specs.declared.event.Event.TheVariants.{Take}
use Rattle.history_machine.specs.Step.{taken}
use Rattle.server_shared.proofs.StepLaws.{kept_step_of, plain_step}
use Rattle.server_shared.proofs.TakeLaws.{lacks_only}
use Rattle.server_shared.proofs.locked.Locked.take_job.Goals as goal

pub returns-then-not-has_work-clause-taken : goal.returns-then-not-has_work-clause-taken
returns-then-not-has_work-clause-taken g c = (λ has. false≢true (sym c.if-not-has_work.true ∙ c.has_work.ensures.1 has), refl)

pub returns-clause-taken : goal.returns-clause-taken
returns-clause-taken g c =
    let has = c.has_work.ensures.0 c.if-not-has_work.false in
    let plain = plain_step _ c.args.self.now.book Take (taken c.step.result.0) c.step.result.1 c.step.new.self.book refl c.step.ensures.step in
    (has, plain, lacks_only c.args.self.now.book c.step.new.self.book c.step.result.0 c.step.result.1 has.1 plain)

-- the same step, as its caller sees it
pub returns-clause-called : goal.returns-clause-called
returns-clause-called g c =
    kept_step_of g.L.Opening.most _ c.args.self.now.book Take (taken c.step.result.0) c.step.result.1 c.step.new.self.book c.args.self.now.most_is
    c.step.ensures.step
