-- The answer to the goal of `decided::first_conflicts_decide_moves`.
use Rattle.law_moves.proofs.MovesDecideLaws.{decide}
use Rattle.law_moves.proofs.decided.first_conflicts_decide_moves.Goals as goal

pub returns : goal.returns
returns c = decide
