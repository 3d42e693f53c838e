-- The answers to the goals of `sending::send_edit`.
use Rattle.lsp_session.proofs.sending.send_edit.Goals as goal

pub returns : goal.returns
returns g c = rw c.in_ok-message.ensures at c.send.ensures
