-- The answers to the goals of `service::answer`.
use Rattle.std.proofs.Common.{List, subst, ℕ}
use Rattle.std.proofs.lemmas.Result.{IfOk-weaker}
use Rattle.std.specs.Prelude.{option_map}
use Rattle.serde_json.specs.View.{view}
use Rattle.lsp_message.specs.Calls.{viewed}
use Rattle.lsp_session.specs.Outcomes.{outcome_view}
use Rattle.lsp_session.specs.declared.service.ServiceAnswer.{ServiceAnswer}
use Rattle.lsp_service.specs.Answering.{GivesAnswer}
use Rattle.lsp_service.specs.Serving.{AnswersMethod}
use Rattle.lsp_service.proofs.service.answer.Goals as goal

pub returns : goal.returns
returns g c =
    let came = c.answer_method-came.result in
    let between = c.answer_method-came.new.desk in
    let editor = c.answer_method-came.new.editor in
    let gives = λ (prefix : List ℕ) (answered : ServiceAnswer).
    GivesAnswer g.D.RequestDesk.tells came between prefix (option_map view answered.edit) (outcome_view answered.outcome) c.answer_given.new.desk in
    IfOk-weaker c.answer_given.result (gives c.as_str.result.now)
    (λ (answered : ServiceAnswer). AnswersMethod g.D.RequestDesk.takes_disk g.D.RequestDesk.takes_documents g.D.RequestDesk.answers
    g.D.RequestDesk.tells (c.args.editor.now, c.args.desk.now) c.args.method.now (viewed c.args.params) (option_map view answered.edit)
    (outcome_view answered.outcome) (editor, c.answer_given.new.desk))
    (λ answered given. (came, between, c.answer_method-came.ensures, subst (λ prefix. gives prefix answered) c.as_str.ensures.value given))
    c.answer_given.ensures
