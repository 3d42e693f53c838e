-- Each list of receipts is accounted for.
use Rattle.gorefd_tests.proofs.servers.seats.settled_alone.Goals as goal

pub settled-requires-clause-accounts : goal.settled-requires-clause-accounts
settled-requires-clause-accounts g c = λ receipts. ∣ tt ∣₁
