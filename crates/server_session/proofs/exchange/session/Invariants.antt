-- The invariants of the loops of `exchange::session`.
use Rattle.std.proofs.Common.{◌+◌, ◌≡◌, Ok, true}
use Rattle.server_session.specs.Answers.{AnswersSome}
use Rattle.server_session.specs.Transcript.{StepEnds}
use Rattle.server_session.proofs.exchange.session.Given as goal

abbrev pub invariant-loop-reading : goal.invariant-loop-reading
invariant-loop-reading g l = record {
  reads : g.S.ByteSource.reads l.source + l.reading.reads_left ≡ g.S.ByteSource.reads l.initial.source + l.initial.reading.reads_left;
  step : StepEnds g.D.Desk.steps g.D.Desk.waits l.limits (g.S.ByteSource.remaining l.initial.source) (g.S.ByteSource.remaining l.source)
      (g.T.Sink.contents l.initial.sink) (g.T.Sink.contents l.sink) l.initial.desk l.desk (Ok true);
  answers : AnswersSome g.D.Desk.steps g.D.Desk.waits l.initial.desk l.desk;
  reader : g.S.ByteSource.failures l.source ≡ g.S.ByteSource.failures l.initial.source;
  writer : g.T.Sink.failures l.sink ≡ g.T.Sink.failures l.initial.sink;
}

abbrev pub decreases-loop-reading : goal.decreases-loop-reading
decreases-loop-reading g l = l.reading.reads_left
