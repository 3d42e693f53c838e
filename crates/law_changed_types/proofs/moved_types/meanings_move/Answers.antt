-- The answers to the goals of `moved_types::meanings_move`.
use Rattle.law_changed_types.proofs.Laws.{meanings_move}
use Rattle.law_changed_types.proofs.moved_types.meanings_move.Goals as goal

pub returns : goal.returns
returns c = meanings_move
