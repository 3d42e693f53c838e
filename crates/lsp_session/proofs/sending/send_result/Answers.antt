-- The answers to the goals of `sending::send_result`.
use Rattle.lsp_session.proofs.sending.send_result.Goals as goal

pub returns : goal.returns
returns g c = rw c.in_ok-message.ensures at c.send.ensures
