-- The ledger is that of the blank. The journal is empty at first, and the limits are those of `Limits::FULL`. Each
-- list of receipts is accounted for.
use Rattle.server_shared.specs.LimitNumbers.{full_limits}
use Rattle.gorefd_tests.proofs.servers.learning.known_alone.Given as goal

abbrev pub ghosts-known_around-L-Opening : goal.ghosts-known_around-L-Opening
ghosts-known_around-L-Opening g a = record { from = 0; begun = 0; most = 1000000; limits = full_limits; accounts = λ receipts. Unit {0} }

abbrev pub ghosts-known_around-L-Ledger : goal.ghosts-known_around-L-Ledger
ghosts-known_around-L-Ledger g a = record { name = a.blank.name; parts = a.blank.parts }

abbrev pub ghosts-known_around-L-LogName : goal.ghosts-known_around-L-LogName
ghosts-known_around-L-LogName g a = record { versions = a.log }
