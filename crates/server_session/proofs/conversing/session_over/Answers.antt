-- The answers to the goals of `conversing::session_over`.
use Rattle.server_session.proofs.conversing.session_over.Goals as goal

pub returns : goal.returns
returns g c = (c.converse-ended.new.desk, rw c.new-solo.ensures at c.converse-ended.ensures)
