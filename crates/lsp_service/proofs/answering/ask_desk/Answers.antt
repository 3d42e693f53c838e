-- The answers to the goals of `answering::ask_desk`.
use Rattle.lsp_service.proofs.answering.ask_desk.Goals as goal

pub returns : goal.returns
returns g c = (c.telling.result, c.answer-told.result, c.telling.ensures, c.answer-told.ensures, c.answered_by.ensures)
