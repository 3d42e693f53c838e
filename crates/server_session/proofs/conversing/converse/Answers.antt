-- The answers to the goals of `conversing::converse`.
use Rattle.server_session.proofs.conversing.converse.Goals as goal

pub returns : goal.returns
returns g c = (
  g.R.Read.remaining c.session-ended.new.source.reader,
  rw (c.new-source.ensures.bytes, c.new-sink.ensures.bytes, ← c.into_inner.ensures.bytes) at c.session-ended.ensures.session,
  c.session-ended.ensures.answers,
)
