-- Each list of receipts is accounted for.
use Rattle.gorefd_tests.proofs.servers.learning.converses.Goals as goal

pub session_at_seat-ended-requires-clause-fresh : goal.session_at_seat-ended-requires-clause-fresh
session_at_seat-ended-requires-clause-fresh g c = λ receipts answered. c.requires receipts

pub session_at_seat-ended-requires-clause-here : goal.session_at_seat-ended-requires-clause-here
session_at_seat-ended-requires-clause-here g c = λ receipts answered. c.requires receipts
