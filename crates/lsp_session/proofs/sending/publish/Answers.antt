-- The answers to the goals of `sending::publish`.
use Rattle.lsp_session.proofs.sending.publish.Goals as goal

pub returns : goal.returns
returns g c =
    let told = rw c.in_ok-message.ensures at c.send.ensures in
    rw c.in_ok-clone.ensures.cases at told
