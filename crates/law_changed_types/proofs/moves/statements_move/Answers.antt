-- The answers to the goals of `moves::statements_move`.
use Rattle.law_changed_types.proofs.FilesMove.{statements_move}
use Rattle.law_changed_types.proofs.moves.statements_move.Goals as goal

pub returns : goal.returns
returns c = statements_move
