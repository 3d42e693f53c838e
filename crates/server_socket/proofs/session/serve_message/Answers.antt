-- The reply to the message was sent, or the session ended before there was one.
use Rattle.std.proofs.lemmas.Result.{err_from_is_err_and}
use Rattle.server_socket.proofs.SessionLaws.{message_served}
use Rattle.server_socket.proofs.session.serve_message.Goals as goal

pub returns-in_err-outgoing-clause-step : goal.returns-in_err-outgoing-clause-step
returns-in_err-outgoing-clause-step g c =
    let p = err_from_is_err_and c.from_residual.result c.from_residual.ensures.1 in
    rw (p.1, p.2) c.in_err-outgoing.ensures.next

pub returns-clause-step : goal.returns-clause-step
returns-clause-step g c =
    message_served g.L.Opening.most c.args.limits.now (g.S.ByteSource.remaining c.args.source.now)
    (g.S.ByteSource.remaining c.answer_and_rest.new.source) (g.T.Sink.contents c.args.sink.now) (g.T.Sink.contents c.answer_and_rest.new.sink)
    (g.T.Sink.contents c.send.new.sink) c.args.seat.now c.answer_and_rest.new.seat c.in_ok-outgoing.outgoing c.send.result
    c.in_ok-outgoing.ensures.next c.send.ensures.written
