-- The answers to the goals of `answering::stepped_by`.
use Rattle.lsp_service.proofs.answering.stepped_by.Goals as goal

pub returns-in-Ok : goal.returns-in-Ok
returns-in-Ok c = rw c.in-Ok.is (c.ask_to_step.ensures, c.note_step.ensures)
