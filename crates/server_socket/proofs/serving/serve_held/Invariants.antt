-- The ledger is that of the blank. The journal has at first what was recovered, and the limits are those of `Limits::FULL`. Receipts are accounted for by
-- messages and turns.
use Rattle.std.proofs.Common.{length}
use Rattle.server_shared.specs.LimitNumbers.{full_limits}
use Rattle.server_socket.specs.Returned.{IsCalled}
use Rattle.server_socket.proofs.serving.serve_held.Given as goal

abbrev pub ghosts-serve_in-L-Opening : goal.ghosts-serve_in-L-Opening
ghosts-serve_in-L-Opening g a = record {
  from = length a.opened.book.journal;
  begun = a.opened.book.begun;
  most = 1000000;
  limits = full_limits;
  accounts =
      IsCalled 1000000;
}

abbrev pub ghosts-serve_in-L-Ledger : goal.ghosts-serve_in-L-Ledger
ghosts-serve_in-L-Ledger g a = record { name = a.blank.name; parts = a.blank.parts }

abbrev pub ghosts-serve_in-L-LogName : goal.ghosts-serve_in-L-LogName
ghosts-serve_in-L-LogName g a = record { versions = a.log }
