-- The session so far, the reads that are left, and what is known of the receipts.
use Rattle.std.proofs.Common.{◌+◌, ◌≡◌, Ok, true}
use Rattle.server_socket.specs.Session.{AccountsForMessages}
use Rattle.server_socket.proofs.SessionLaws.{SessionSoFar}
use Rattle.server_socket.proofs.session.exchange_at_seat.Given as goal

abbrev pub invariant-loop-reading : goal.invariant-loop-reading
invariant-loop-reading g l = record {
  reads : g.S.ByteSource.reads l.source + l.reading.reads_left ≡ g.S.ByteSource.reads l.initial.source + l.initial.reading.reads_left;
  here : AccountsForMessages g.L.Opening.accounts g.L.Opening.most l.seat;
  session : SessionSoFar g.L.Opening.most l.limits (g.S.ByteSource.remaining l.initial.source) (g.S.ByteSource.remaining l.source)
      (g.T.Sink.contents l.initial.sink) (g.T.Sink.contents l.sink) l.initial.seat l.seat (Ok true);
}

abbrev pub decreases-loop-reading : goal.decreases-loop-reading
decreases-loop-reading g l = l.reading.reads_left
