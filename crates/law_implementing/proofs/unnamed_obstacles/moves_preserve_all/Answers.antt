-- The answer to the goal of `unnamed_obstacles::moves_preserve_all`.
use Rattle.law_implementing.proofs.MovesImplementing.{moves_preserve_all}
use Rattle.law_implementing.proofs.unnamed_obstacles.moves_preserve_all.Goals as goal

pub returns : goal.returns
returns c = moves_preserve_all
