-- The answer to the goal of `decided::packages_stay_bound`.
use Rattle.law_moves.proofs.MovesDecideLaws.{bound}
use Rattle.law_moves.proofs.decided.packages_stay_bound.Goals as goal

pub returns : goal.returns
returns c = bound
