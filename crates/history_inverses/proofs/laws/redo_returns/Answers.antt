-- By the lemma of that name.
use Rattle.history_inverses.proofs.Returns.{redo_returns}
use Rattle.history_inverses.proofs.laws.redo_returns.Goals as goal

pub returns : goal.returns
returns c = redo_returns
