-- The answers to the goals of `answering::answer_method`.
use Rattle.std.proofs.Common.{refl, subst}
use Rattle.std.specs.Prelude.{Err}
use Rattle.lsp_service.specs.Answering.{AnswersRead}
use Rattle.lsp_service.specs.declared.failure.Failure.TheVariants.{Asked}
use Rattle.lsp_service.proofs.answering.answer_method.Goals as goal

pub returns-in-Ok : goal.returns-in-Ok
returns-in-Ok g c =
    subst (λ read. AnswersRead g.D.RequestDesk.takes_disk g.D.RequestDesk.takes_documents g.D.RequestDesk.answers read c.args.editor.now
    c.args.desk.now c.answer_request.result c.answer_request.new.editor c.answer_request.new.desk) c.in-Ok.ensures c.answer_request.ensures

pub returns-in-Err : goal.returns-in-Err
returns-in-Err g c =
    subst (λ read. AnswersRead g.D.RequestDesk.takes_disk g.D.RequestDesk.takes_documents g.D.RequestDesk.answers read c.args.editor.now
    c.args.desk.now (Err (Asked c.in-Err.fault)) c.args.editor.now c.args.desk.now) c.in-Err.ensures (refl, refl, refl)
