-- The answers to the goals of `answering::answer_now`.
use Rattle.std.proofs.Common.{subst}
use Rattle.lsp_told.specs.Requests.{request_view}
use Rattle.lsp_service.specs.Answering.{AnswersBy}
use Rattle.lsp_service.proofs.answering.answer_now.Goals as goal

pub returns-in-Some : goal.returns-in-Some
returns-in-Some g c =
    subst (λ step. AnswersBy g.D.RequestDesk.answers step (request_view c.args.request) c.args.editor.now c.args.desk.now c.step_back.result
    c.step_back.new.editor c.step_back.new.desk) c.in-Some.ensures c.step_back.ensures

pub returns-in-None : goal.returns-in-None
returns-in-None g c =
    subst (λ step. AnswersBy g.D.RequestDesk.answers step (request_view c.args.request) c.args.editor.now c.args.desk.now c.ask_desk.result
    c.ask_desk.new.editor c.ask_desk.new.desk) c.in-None.ensures c.ask_desk.ensures
