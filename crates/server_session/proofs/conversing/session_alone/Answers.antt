-- The answers to the goals of `conversing::session_alone`.
use Rattle.std.proofs.Common.{refl, subst}
use Rattle.history_machine.specs.Machine.{Machine, opening}
use Rattle.history_machine.specs.Step.{Step}
use Rattle.server_commands.specs.Wait.{SoloWaits}
use Rattle.server_session.specs.Conversing.{EndsOver}
use Rattle.std.proofs.KnownBytes.{Keeps-refl}
use Rattle.server_session.proofs.Exchanges.{answers_none}
use Rattle.server_session.proofs.conversing.session_alone.Goals as goal

pub returns-in-Ok : goal.returns-in-Ok
returns-in-Ok g c = subst
    (λ (book : Machine). EndsOver book c.args.limits (g.R.Read.remaining c.args.reader) (g.W.Write.contents c.args.writer)
    (g.W.Write.contents c.session_over.result.1) c.session_over.result.0)
    c.in-Ok.ensures c.session_over.ensures

pub returns-in-Err : goal.returns-in-Err
returns-in-Err g c = (
  opening c.args.limits,
  (
    g.R.Read.remaining c.args.reader,
    (Keeps-refl (g.R.Read.remaining c.args.reader), refl, Keeps-refl (g.W.Write.contents c.args.writer)),
    answers_none Step SoloWaits (opening c.args.limits),
  ),
)
