-- The answer to the goal of `kept::moves_keep_names`.
use Rattle.law_moves.proofs.Laws.{moves_keep_names}
use Rattle.law_moves.proofs.kept.moves_keep_names.Goals as goal

pub returns : goal.returns
returns c = moves_keep_names
