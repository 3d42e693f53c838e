-- The answers to the goals of `moved_types::broken_move`.
use Rattle.law_changed_types.proofs.Laws.{broken_move}
use Rattle.law_changed_types.proofs.moved_types.broken_move.Goals as goal

pub returns : goal.returns
returns c = broken_move
