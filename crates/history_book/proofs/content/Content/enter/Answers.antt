-- The Job is not out after it, and the current state takes in the outcome of the delivery.
use Rattle.std.proofs.Common.{sym, subst}
use Rattle.std.proofs.lemmas.Result.{IfOk-at_ok}
use Rattle.history_machine.specs.Machine.{Content}
use Rattle.history_machine.specs.State.{State}
use Rattle.history_book.specs.Histories.{content_of}
use Rattle.history_book.specs.Handed.{handed}
use Rattle.history_book.specs.Outcomes.{HasOutcome}
use Rattle.history_machine.specs.Step.{AnswersOrLacks}
use Rattle.history_machine.specs.declared.event.Event.TheVariants.{Deliver}
use Rattle.history_book.proofs.Comes.{has_table}
use Rattle.history_book.proofs.CurrentChanged.{content_current, files_kept}
use Rattle.history_book.proofs.Settled.{settled}
use Rattle.history_book.proofs.content.Content.enter.Goals as goal

pub take_in-requires : goal.take_in-requires
take_in-requires c =
    let job = c.args.job in
    let built = c.args.built in
    let comes = IfOk-at_ok (HasOutcome c.args.self.now.current job built) c.in-Ok.is c.requires in
    has_table c.self.inside.history.current job built c.in-Ok.outcome
    (subst (λ (x : Content). HasOutcome x.current job built c.in-Ok.outcome) (sym c.self.view_is) comes)

pub returns-in-Ok-take_back : goal.returns-in-Ok-take_back
returns-in-Ok-take_back c =
    let job = c.args.job in
    let built = c.args.built in
    let history = c.self.inside.history in
    let out = c.take_back.new.self in
    let now : State = c.take_in.new.current in
    let old : Content = content_of history c.self.inside.limits c.self.inside.out in
    let new : Content = record old { current = now; out = out } in
    let comes = IfOk-at_ok (HasOutcome c.args.self.now.current job built) c.in-Ok.is c.requires in
    let here = subst (λ (x : Content). HasOutcome x.current job built c.in-Ok.outcome) (sym c.self.view_is) comes in
    let files = files_kept history.current now c.in-Ok.outcome (handed c.take_in.result) c.take_in.ensures in
    subst (λ (y : Content). AnswersOrLacks c.args.self.now (Deliver job built) (handed c.take_in.result) y)
    (sym (content_current history now files c.self.inside.limits out))
    (subst (λ (x : Content). AnswersOrLacks x (Deliver job built) (handed c.take_in.result) new) c.self.view_is
    (settled old job built out c.in-Ok-take_back.ensures.1 c.in-Ok.outcome (handed c.take_in.result) now here c.take_in.ensures))
