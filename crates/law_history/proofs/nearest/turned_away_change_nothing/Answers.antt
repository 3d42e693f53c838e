-- By the lemma of that name.
use Rattle.law_history.proofs.Reached.{turned_away_change_nothing}
use Rattle.law_history.proofs.nearest.turned_away_change_nothing.Goals as goal

pub returns : goal.returns
returns c = turned_away_change_nothing
