-- The ledger is that of the blank. The journal is empty at first, and the limits are those of `Limits::FULL`. Each
-- list of receipts is accounted for.
use Rattle.server_shared.specs.LimitNumbers.{full_limits}
use Rattle.gorefd_tests.proofs.servers.seats.settled_alone.Given as goal

abbrev pub ghosts-settled-L-Opening : goal.ghosts-settled-L-Opening
ghosts-settled-L-Opening g a = record { from = 0; begun = 0; most = 1000000; limits = full_limits; accounts = λ receipts. Unit {0} }

abbrev pub ghosts-settled-L-Ledger : goal.ghosts-settled-L-Ledger
ghosts-settled-L-Ledger g a = record { name = a.blank.name; parts = a.blank.parts }

abbrev pub ghosts-settled-L-LogName : goal.ghosts-settled-L-LogName
ghosts-settled-L-LogName g a = record { versions = a.log }
