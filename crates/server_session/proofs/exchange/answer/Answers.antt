-- The answers to the goals of `exchange::answer`.
use Rattle.std.proofs.Common.{inl}
use Rattle.server_session.proofs.exchange.answer.Goals as goal

pub returns-in-Ask : goal.returns-in-Ask
returns-in-Ask g c = rw c.in-Ask.is (inl (c.act.result, c.act.ensures, c.of.ensures))
