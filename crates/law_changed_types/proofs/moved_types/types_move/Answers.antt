-- The answers to the goals of `moved_types::types_move`.
use Rattle.law_changed_types.proofs.Laws.{types_move}
use Rattle.law_changed_types.proofs.moved_types.types_move.Goals as goal

pub returns : goal.returns
returns c = types_move
