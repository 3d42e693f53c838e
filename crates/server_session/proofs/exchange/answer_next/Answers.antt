-- The next message was answered, or none was read.
use Rattle.std.proofs.Common.{inl, inr, refl}
use Rattle.std.proofs.lemmas.Result.{err_from_is_err_and}
use Rattle.server_session.proofs.Served.{next_answered, next_refused, step_ended, step_stopped}
use Rattle.server_session.proofs.exchange.answer_next.Goals as goal

pub returns-in_err-await_message-clause-next : goal.returns-in_err-await_message-clause-next
returns-in_err-await_message-clause-next g c =
    let p = err_from_is_err_and c.from_residual.result c.from_residual.ensures.1 in
    rw (p.1, p.2)
    (step_stopped g.D.Desk.steps g.D.Desk.waits c.args.limits.now (g.S.ByteSource.remaining c.args.source.now)
    (g.S.ByteSource.remaining c.await_message.new.source)
    (g.T.Sink.contents c.args.sink.now) (g.T.Sink.contents c.await_message.new.sink) c.args.desk.now c.in_err-await_message.field-0.0
    c.in_err-await_message.ensures.awaits)

pub returns-in-End-clause-next : goal.returns-in-End-clause-next
returns-in-End-clause-next g c =
    step_ended g.D.Desk.steps g.D.Desk.waits c.args.limits.now (g.S.ByteSource.remaining c.args.source.now)
    (g.S.ByteSource.remaining c.await_message.new.source)
    (g.T.Sink.contents c.args.sink.now) (g.T.Sink.contents c.await_message.new.sink) c.args.desk.now (rw c.in-End.is at c.in_ok-await_message.ensures.awaits)

pub returns-in-NoRoom-clause-next : goal.returns-in-NoRoom-clause-next
returns-in-NoRoom-clause-next g c =
    rw c.refuse-reply.ensures
    (next_refused g.D.Desk.steps g.D.Desk.waits c.args.limits.now (g.S.ByteSource.remaining c.args.source.now)
    (g.S.ByteSource.remaining c.await_message.new.source)
    (g.T.Sink.contents c.args.sink.now) (g.T.Sink.contents c.await_message.new.sink) c.args.desk.now
    (rw c.in-NoRoom.is at c.in_ok-await_message.ensures.awaits))

pub returns-in-Message-clause-next : goal.returns-in-Message-clause-next
returns-in-Message-clause-next g c =
    rw c.is_last-is_last.ensures
    (next_answered g.D.Desk.steps g.D.Desk.waits c.args.limits.now (g.S.ByteSource.remaining c.args.source.now)
    (g.S.ByteSource.remaining c.await_message.new.source)
    (g.T.Sink.contents c.args.sink.now) (g.T.Sink.contents c.await_message.new.sink) c.args.desk.now c.answer-reply.new.desk c.in-Message.message
    c.answer-reply.result (rw c.in-Message.is at c.in_ok-await_message.ensures.awaits) c.answer-reply.ensures)

pub returns-in_err-await_message-clause-answers : goal.returns-in_err-await_message-clause-answers
returns-in_err-await_message-clause-answers g c = inl refl

pub returns-in-End-clause-answers : goal.returns-in-End-clause-answers
returns-in-End-clause-answers g c = inl refl

pub returns-in-NoRoom-clause-answers : goal.returns-in-NoRoom-clause-answers
returns-in-NoRoom-clause-answers g c = inl refl

pub returns-in-Message-clause-answers : goal.returns-in-Message-clause-answers
returns-in-Message-clause-answers g c = inr (c.in-Message.message, c.answer-reply.result, c.answer-reply.ensures)
