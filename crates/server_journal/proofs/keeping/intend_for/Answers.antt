-- The record of the change is added, or none is needed.
use Rattle.std.proofs.Common.{Option, refl, sym, ap}
use Rattle.std.specs.Prelude.{is_some}
use Rattle.history_records.specs.declared.change.KeptChange.{KeptChange}
use Rattle.server_journal.proofs.KeptLaws.{asks_none, if_err, of_event}
use Rattle.server_journal.proofs.keeping.intend_for.Goals as goal

pub returns-in-None-clause-ok : goal.returns-in-None-clause-ok
returns-in-None-clause-ok g c =
    (asks_none c.args.book.now (g.Q.Question.event c.args.question.now) (sym c.in-None.ensures), refl, refl)

pub returns-in-Some-clause-ok : goal.returns-in-Some-clause-ok
returns-in-Some-clause-ok g c =
    of_event _ _ c.intend_possible.result (g.Q.Question.event c.args.question.now) (sym c.in-Some.ensures) c.intend_possible.ensures.ok

pub returns-in-Some-clause-asks : goal.returns-in-Some-clause-asks
returns-in-Some-clause-asks g c =
    if_err c.intend_possible.result (ap (λ (o : Option KeptChange). is_some o) (sym c.in-Some.ensures))
