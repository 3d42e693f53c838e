-- The bytes of the reader and the writer are those that the source and the sink have.
use Rattle.server_socket.proofs.session.session_at_seat.Goals as goal

pub returns-clause-converses : goal.returns-clause-converses
returns-clause-converses g c =
    let s = rw (c.new-source.ensures.bytes, c.new-sink.ensures.bytes, ← c.into_inner.ensures.bytes) at c.exchange_at_seat-ended.ensures.session in
    (s.0, s.1, (g.I.Read.remaining c.exchange_at_seat-ended.new.source.reader, s.2.0, s.2.1))

pub returns-clause-holds : goal.returns-clause-holds
returns-clause-holds g c =
    let s = returns-clause-converses g c in
    (s.0, s.1, (_, _, _, _, s.2))
