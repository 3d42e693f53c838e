-- The view shows the states that it is given.
use Rattle.std.proofs.Common.{refl}
use Rattle.history_machine.proofs.seen_state.HistoryView.new.Goals as goal

pub invariant_of-result : goal.invariant_of-result
invariant_of-result c = (c.args.states, refl)
