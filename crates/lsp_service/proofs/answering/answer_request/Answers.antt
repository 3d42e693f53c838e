-- The answers to the goals of `answering::answer_request`.
use Rattle.std.proofs.Common.{refl}
use Rattle.std.specs.Prelude.{Err, Ok}
use Rattle.lsp_service.proofs.answering.answer_request.Goals as goal

pub returns-in-Ok : goal.returns-in-Ok
returns-in-Ok g c = (Ok tt, c.catch_up_for.new.editor, c.catch_up_for.new.desk, c.in-Ok.ensures, c.answer_now.ensures)

pub returns-in-Err : goal.returns-in-Err
returns-in-Err g c =
    (Err c.in-Err.failure, c.catch_up_for.new.editor, c.catch_up_for.new.desk, c.in-Err.ensures, (refl, refl, refl))
