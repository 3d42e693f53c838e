-- The answer to the goal of `replaced::moves_are_replacements`.
use Rattle.law_moves.proofs.MoveEdits.{moves_are}
use Rattle.law_moves.proofs.replaced.moves_are_replacements.Goals as goal

pub returns : goal.returns
returns c = moves_are
