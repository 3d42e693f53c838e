-- The answers to the goals of `answering::answered_by`.
use Rattle.std.proofs.Common.{refl}
use Rattle.lsp_service.proofs.answering.answered_by.Goals as goal

pub returns-in-Ok : goal.returns-in-Ok
returns-in-Ok c = rw c.in-Ok.is (refl, c.note_told.ensures)
