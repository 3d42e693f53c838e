-- The steps of the offsets.
use Rattle.base_edits.proofs.MovedPlaces.{keeps_order, moves_end}
use Rattle.base_edits.proofs.laws.edits_keep_order.Goals as goal

pub returns-clause-order : goal.returns-clause-order
returns-clause-order c = keeps_order

pub returns-clause-end : goal.returns-clause-end
returns-clause-end c = moves_end
