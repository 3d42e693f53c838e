-- The answers to the goals of `moved_types::definitions_move`.
use Rattle.law_changed_types.proofs.Laws.{definitions_move}
use Rattle.law_changed_types.proofs.moved_types.definitions_move.Goals as goal

pub returns : goal.returns
returns c = definitions_move
