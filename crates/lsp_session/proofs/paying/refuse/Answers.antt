-- The answers to the goals of `paying::refuse`.
use Rattle.lsp_session.proofs.paying.refuse.Goals as goal

pub returns : goal.returns
returns g c = rw c.refused_words.ensures at c.send_error.ensures
