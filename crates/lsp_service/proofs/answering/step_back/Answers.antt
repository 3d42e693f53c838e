-- The answers to the goals of `answering::step_back`.
use Rattle.std.proofs.Common.{◌∙◌, ap, refl, subst, sym}
use Rattle.std.specs.Prelude.{Err}
use Rattle.lsp_told.specs.declared.fault.AskFault.{AskFault}
use Rattle.lsp_service.specs.Answering.{StepsIf}
use Rattle.lsp_service.specs.declared.failure.Failure.TheVariants.{Asked}
use Rattle.lsp_service.proofs.answering.step_back.Goals as goal

pub returns-then-has_no_step : goal.returns-then-has_no_step
returns-then-has_no_step g c =
    subst (λ none. StepsIf g.D.RequestDesk.answers none c.args.way c.args.editor.now c.args.desk.now (Err (Asked c.no_step.result)) c.args.editor.now
    c.args.desk.now) (sym c.if-has_no_step.true ∙ c.has_no_step.ensures) (ap (λ (why : AskFault). Err (Asked why)) c.no_step.ensures, refl, refl)

pub returns : goal.returns
returns g c =
    subst (λ none. StepsIf g.D.RequestDesk.answers none c.args.way c.args.editor.now c.args.desk.now c.stepped_by.result c.stepped_by.new.editor
    c.answer-told.new.self) (sym c.if-has_no_step.false ∙ c.has_no_step.ensures)
    (c.telling.result, c.answer-told.result, c.telling.ensures, c.answer-told.ensures, c.stepped_by.ensures)
