-- By the lemma of that name.
use Rattle.law_history.proofs.Reached.{deliveries_keep_neighbours}
use Rattle.law_history.proofs.nearest.deliveries_keep_neighbours.Goals as goal

pub returns : goal.returns
returns c = deliveries_keep_neighbours
