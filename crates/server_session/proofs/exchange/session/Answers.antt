-- The answers to the goals of `exchange::session`.
use Rattle.std.proofs.Common.{Ok, Err, true, false, ap, ◌∙◌, rules}
use Rattle.std.proofs.lemmas.Result.{err_from_is_err_and}
use Rattle.server_session.proofs.Exchanges.{answers_more, answers_none}
use Rattle.server_session.proofs.Steps.{StepEnds-none, StepEnds-append, SessionEnds-from_step}
use Rattle.server_session.proofs.exchange.session.Goals as goal

pub loop-reading-init : goal.loop-reading-init
loop-reading-init g c = record {
  reads = search rules;
  step = StepEnds-none g.D.Desk.steps g.D.Desk.waits c.args.limits (g.S.ByteSource.remaining c.args.source.now) (g.T.Sink.contents c.args.sink.now)
      c.args.desk.now;
  answers = answers_none g.D.Desk.steps g.D.Desk.waits c.args.desk.now;
  reader = search rules;
  writer = search rules;
}

pub returns-in_err-serve_next-clause-session : goal.returns-in_err-serve_next-clause-session
returns-in_err-serve_next-clause-session g c =
    let p = err_from_is_err_and c.from_residual.result c.from_residual.ensures.1 in
    let fault = c.in_err-serve_next.field-0.0 in
    SessionEnds-from_step g.D.Desk.steps g.D.Desk.waits c.args.limits
    (g.S.ByteSource.remaining c.args.source.now) (g.S.ByteSource.remaining c.serve_next.new.source)
    (g.T.Sink.contents c.args.sink.now) (g.T.Sink.contents c.serve_next.new.sink)
    c.args.desk.now c.serve_next.new.desk fault c.from_residual.result
    (StepEnds-append g.D.Desk.steps g.D.Desk.waits c.args.limits
    (g.S.ByteSource.remaining c.args.source.now) (g.S.ByteSource.remaining c.loop-reading.source) (g.S.ByteSource.remaining c.serve_next.new.source)
    (g.T.Sink.contents c.args.sink.now) (g.T.Sink.contents c.loop-reading.sink) (g.T.Sink.contents c.serve_next.new.sink)
    c.args.desk.now c.loop-reading.desk c.serve_next.new.desk (Err fault)
    c.loop-reading.invariant.step c.in_err-serve_next.ensures.step)
    (p.1 ∙ ap Err p.2)

pub loop-reading-preserved : goal.loop-reading-preserved
loop-reading-preserved g c = record {
  reads = c.in_ok-serve_next.ensures.reads ∙ c.loop-reading.invariant.reads;
  step = StepEnds-append g.D.Desk.steps g.D.Desk.waits c.args.limits
      (g.S.ByteSource.remaining c.args.source.now) (g.S.ByteSource.remaining c.loop-reading.source) (g.S.ByteSource.remaining c.serve_next.new.source)
      (g.T.Sink.contents c.args.sink.now) (g.T.Sink.contents c.loop-reading.sink) (g.T.Sink.contents c.serve_next.new.sink)
      c.args.desk.now c.loop-reading.desk c.serve_next.new.desk (Ok true)
      c.loop-reading.invariant.step (rw c.if-branch.true at c.in_ok-serve_next.ensures.step);
  answers = answers_more g.D.Desk.steps g.D.Desk.waits c.args.desk.now c.loop-reading.desk c.serve_next.new.desk
      c.loop-reading.invariant.answers c.in_ok-serve_next.ensures.answers;
  reader = c.in_ok-serve_next.ensures.counted.0 ∙ c.loop-reading.invariant.reader;
  writer = c.in_ok-serve_next.ensures.counted.1 ∙ c.loop-reading.invariant.writer;
}

pub returns-clause-session : goal.returns-clause-session
returns-clause-session g c =
    StepEnds-append g.D.Desk.steps g.D.Desk.waits c.args.limits
    (g.S.ByteSource.remaining c.args.source.now) (g.S.ByteSource.remaining c.loop-reading.source) (g.S.ByteSource.remaining c.serve_next.new.source)
    (g.T.Sink.contents c.args.sink.now) (g.T.Sink.contents c.loop-reading.sink) (g.T.Sink.contents c.serve_next.new.sink)
    c.args.desk.now c.loop-reading.desk c.serve_next.new.desk (Ok false)
    c.loop-reading.invariant.step (rw c.if-branch.false at c.in_ok-serve_next.ensures.step)

pub returns-in-Err-clause-answers : goal.returns-in-Err-clause-answers
returns-in-Err-clause-answers g c = answers_none g.D.Desk.steps g.D.Desk.waits c.args.desk.now

pub returns-in_err-serve_next-clause-answers : goal.returns-in_err-serve_next-clause-answers
returns-in_err-serve_next-clause-answers g c =
    answers_more g.D.Desk.steps g.D.Desk.waits c.args.desk.now c.loop-reading.desk c.serve_next.new.desk c.loop-reading.invariant.answers
    c.in_err-serve_next.ensures.answers

pub returns-clause-answers : goal.returns-clause-answers
returns-clause-answers g c =
    answers_more g.D.Desk.steps g.D.Desk.waits c.args.desk.now c.loop-reading.desk c.serve_next.new.desk c.loop-reading.invariant.answers
    c.in_ok-serve_next.ensures.answers
