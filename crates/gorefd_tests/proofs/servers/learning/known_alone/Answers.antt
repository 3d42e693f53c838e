-- Each list of receipts is accounted for.
use Rattle.gorefd_tests.proofs.servers.learning.known_alone.Goals as goal

pub known_around-requires-clause-accounts : goal.known_around-requires-clause-accounts
known_around-requires-clause-accounts g c = λ receipts. ∣ tt ∣₁
