-- Each list of receipts is accounted for.
use Rattle.gorefd_tests.proofs.servers.seats.settled.Goals as goal

pub settle-requires : goal.settle-requires
settle-requires g c = λ place other within. c.requires.accounts _
