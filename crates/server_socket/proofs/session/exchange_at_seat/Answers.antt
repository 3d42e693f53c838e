-- One message more, or the end of the session.
use Rattle.std.proofs.Common.{Ok, Err, true, false, [], refl, ap, ◌∙◌, rules}
use Rattle.std.proofs.KnownBytes.{Keeps-refl}
use Rattle.std.proofs.lemmas.Result.{err_from_is_err_and}
use Rattle.server_session.proofs.Exchanges.{answers_none}
use Rattle.server_session.proofs.Steps.{SessionEnds-from_step}
use Rattle.server_socket.specs.SeatStep.{CallsAtSeat}
use Rattle.server_socket.specs.SeatWait.{WaitsUntilBuilt}
use Rattle.server_socket.proofs.SessionLaws.{so_far_ends, so_far_none, so_far_on}
use Rattle.server_socket.proofs.session.exchange_at_seat.Goals as goal

pub loop-reading-init : goal.loop-reading-init
loop-reading-init g c = record {
  reads = search rules;
  here = c.requires.here;
  session = so_far_none g.L.Opening.most c.args.limits (g.S.ByteSource.remaining c.args.source.now) (g.T.Sink.contents c.args.sink.now) c.args.seat.now;
}

pub loop-reading-preserved : goal.loop-reading-preserved
loop-reading-preserved g c = record {
  reads = c.in_ok-serve_message.ensures.reads ∙ c.loop-reading.invariant.reads;
  here = c.in_ok-serve_message.ensures.here;
  session = so_far_on g.L.Opening.most c.args.limits (g.S.ByteSource.remaining c.args.source.now) (g.S.ByteSource.remaining c.loop-reading.source)
      (g.S.ByteSource.remaining c.serve_message.new.source) (g.T.Sink.contents c.args.sink.now) (g.T.Sink.contents c.loop-reading.sink)
      (g.T.Sink.contents c.serve_message.new.sink) c.args.seat.now c.loop-reading.seat c.serve_message.new.seat (Ok true)
      c.loop-reading.invariant.session (rw c.if-branch.true at c.in_ok-serve_message.ensures.step);
}

pub returns-clause-session : goal.returns-clause-session
returns-clause-session g c =
    so_far_ends g.L.Opening.most c.args.limits (g.S.ByteSource.remaining c.args.source.now) (g.S.ByteSource.remaining c.serve_message.new.source)
    (g.T.Sink.contents c.args.sink.now) (g.T.Sink.contents c.serve_message.new.sink) c.args.seat.now c.serve_message.new.seat (Ok false) (Ok tt)
    (λ all step. step)
    (so_far_on g.L.Opening.most c.args.limits (g.S.ByteSource.remaining c.args.source.now) (g.S.ByteSource.remaining c.loop-reading.source)
    (g.S.ByteSource.remaining c.serve_message.new.source) (g.T.Sink.contents c.args.sink.now) (g.T.Sink.contents c.loop-reading.sink)
    (g.T.Sink.contents c.serve_message.new.sink) c.args.seat.now c.loop-reading.seat c.serve_message.new.seat (Ok false)
    c.loop-reading.invariant.session (rw c.if-branch.false at c.in_ok-serve_message.ensures.step))

pub returns-in_err-serve_message-clause-session : goal.returns-in_err-serve_message-clause-session
returns-in_err-serve_message-clause-session g c =
    let p = err_from_is_err_and c.from_residual.result c.from_residual.ensures.1 in
    let fault = c.in_err-serve_message.field-0.0 in
    so_far_ends g.L.Opening.most c.args.limits (g.S.ByteSource.remaining c.args.source.now) (g.S.ByteSource.remaining c.serve_message.new.source)
    (g.T.Sink.contents c.args.sink.now) (g.T.Sink.contents c.serve_message.new.sink) c.args.seat.now c.serve_message.new.seat (Err fault)
    c.from_residual.result
    (λ all step. SessionEnds-from_step (CallsAtSeat g.L.Opening.most) (WaitsUntilBuilt g.L.Opening.most) c.args.limits
    (g.S.ByteSource.remaining c.args.source.now) (g.S.ByteSource.remaining c.serve_message.new.source)
    (g.T.Sink.contents c.args.sink.now) (g.T.Sink.contents c.serve_message.new.sink) c.args.seat.now all fault c.from_residual.result step
    (p.1 ∙ ap Err p.2))
    (so_far_on g.L.Opening.most c.args.limits (g.S.ByteSource.remaining c.args.source.now) (g.S.ByteSource.remaining c.loop-reading.source)
    (g.S.ByteSource.remaining c.serve_message.new.source) (g.T.Sink.contents c.args.sink.now) (g.T.Sink.contents c.loop-reading.sink)
    (g.T.Sink.contents c.serve_message.new.sink) c.args.seat.now c.loop-reading.seat c.serve_message.new.seat (Err fault)
    c.loop-reading.invariant.session c.in_err-serve_message.ensures.step)

pub returns-in-Err-clause-session : goal.returns-in-Err-clause-session
returns-in-Err-clause-session g c = (
  [],
  refl,
  (
    (Keeps-refl (g.S.ByteSource.remaining c.args.source.now), refl, Keeps-refl (g.T.Sink.contents c.args.sink.now)),
    answers_none (CallsAtSeat g.L.Opening.most) (WaitsUntilBuilt g.L.Opening.most) c.args.seat.now,
  ),
)
