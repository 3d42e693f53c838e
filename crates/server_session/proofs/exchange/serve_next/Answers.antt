-- A step in its two parts.
use Rattle.std.proofs.lemmas.Result.{err_from_is_err_and}
use Rattle.server_session.proofs.Served.{step_in_parts}
use Rattle.server_session.proofs.exchange.serve_next.Goals as goal

pub returns-in_err-outgoing-clause-step : goal.returns-in_err-outgoing-clause-step
returns-in_err-outgoing-clause-step g c =
    let p = err_from_is_err_and c.from_residual.result c.from_residual.ensures.1 in
    rw (p.1, p.2) c.in_err-outgoing.ensures.next

pub returns-clause-step : goal.returns-clause-step
returns-clause-step g c =
    step_in_parts g.D.Desk.steps g.D.Desk.waits c.args.limits.now (g.S.ByteSource.remaining c.args.source.now)
    (g.S.ByteSource.remaining c.answer_next.new.source)
    (g.T.Sink.contents c.args.sink.now) (g.T.Sink.contents c.answer_next.new.sink) (g.T.Sink.contents c.send.new.sink) c.args.desk.now c.answer_next.new.desk
    c.in_ok-outgoing.outgoing c.send.result c.in_ok-outgoing.ensures.next c.send.ensures.written
