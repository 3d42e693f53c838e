-- The outcome of the delivery is that for the current state.
use Rattle.std.proofs.Common.{IfOk, subst}
use Rattle.history_machine.specs.Machine.{Content}
use Rattle.history_book.specs.Outcomes.{HasOutcome}
use Rattle.history_book.proofs.content.Content.deliver_on_current.Goals as goal

pub enter-requires : goal.enter-requires
enter-requires c =
    subst (λ (m : Content). IfOk c.outcome_on_current-outcome.result (HasOutcome m.current c.args.job c.args.built)) c.self.view_is
    c.outcome_on_current-outcome.ensures
