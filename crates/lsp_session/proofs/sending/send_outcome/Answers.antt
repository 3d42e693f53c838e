-- The answers to the goals of `sending::send_outcome`.
use Rattle.lsp_session.proofs.sending.send_outcome.Goals as goal

pub returns-in-Err : goal.returns-in-Err
returns-in-Err g c = rw c.in-Err.is (rw c.as_str.ensures.value at c.send_error.ensures)
