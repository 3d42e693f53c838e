-- By the lemma of that name.
use Rattle.law_history.proofs.Pushed.{undo_returns}
use Rattle.law_history.proofs.pushing.undo_returns.Goals as goal

pub returns : goal.returns
returns c = undo_returns
