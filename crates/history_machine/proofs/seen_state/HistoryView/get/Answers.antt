-- The invariant of `HistoryView` says it.
use Rattle.std.proofs.Common.{subst}
use Rattle.history_machine.specs.Machine.{ShowsHistory}
use Rattle.history_machine.proofs.seen_state.HistoryView.get.Goals as goal

pub returns-clause-shows : goal.returns-clause-shows
returns-clause-shows c = subst ShowsHistory c.self.view_is c.self.invariant
