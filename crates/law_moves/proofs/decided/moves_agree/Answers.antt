-- The answer to the goal of `decided::moves_agree`.
use Rattle.law_moves.proofs.MovesDecideLaws.{agree}
use Rattle.law_moves.proofs.decided.moves_agree.Goals as goal

pub returns : goal.returns
returns c = agree
