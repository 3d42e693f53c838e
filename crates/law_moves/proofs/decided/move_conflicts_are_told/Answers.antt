-- The answer to the goal of `decided::move_conflicts_are_told`.
use Rattle.law_moves.proofs.MovesDecideLaws.{told}
use Rattle.law_moves.proofs.decided.move_conflicts_are_told.Goals as goal

pub returns : goal.returns
returns c = told
