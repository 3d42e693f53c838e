-- The answer to the goal of `obstacles::no_obstacle_is_harmless`.
use Rattle.law_implementing.proofs.Deciding.{no_obstacle_is_harmless}
use Rattle.law_implementing.proofs.obstacles.no_obstacle_is_harmless.Goals as goal

pub returns : goal.returns
returns c = no_obstacle_is_harmless
