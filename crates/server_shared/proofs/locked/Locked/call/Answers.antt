-- The step of the locked book is one of some book.
use Rattle.server_shared.proofs.StepLaws.{kept_step_of}
use Rattle.server_shared.proofs.locked.Locked.call.Goals as goal

pub returns-clause-step : goal.returns-clause-step
returns-clause-step g c =
    kept_step_of g.L.Opening.most _ c.args.self.now.book (g.Q.Question.event c.args.question) (g.Q.Question.reply c.step.result.0) c.step.result.1
    c.step.new.self.book c.args.self.now.most_is c.step.ensures.step
