-- The answers to the goals of `catching_up::give_and_settle`.
use Rattle.std.proofs.Common.{refl}
use Rattle.lsp_service.proofs.catching_up.give_and_settle.Goals as goal

pub returns-in-Ok : goal.returns-in-Ok
returns-in-Ok g c = (c.give_documents.new.editor, c.in-Ok.ensures, c.note_settled.ensures)

pub returns-in-Err : goal.returns-in-Err
returns-in-Err g c = (c.give_documents.new.editor, c.in-Err.ensures, refl)
