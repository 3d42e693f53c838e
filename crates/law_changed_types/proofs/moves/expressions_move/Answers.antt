-- The answers to the goals of `moves::expressions_move`.
use Rattle.law_changed_types.proofs.FoundMove.{expressions_move}
use Rattle.law_changed_types.proofs.moves.expressions_move.Goals as goal

pub returns : goal.returns
returns c = expressions_move
