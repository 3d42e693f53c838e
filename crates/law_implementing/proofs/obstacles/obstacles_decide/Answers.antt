-- The answer to the goal of `obstacles::obstacles_decide`.
use Rattle.law_implementing.proofs.Deciding.{obstacles_decide}
use Rattle.law_implementing.proofs.obstacles.obstacles_decide.Goals as goal

pub returns : goal.returns
returns c = obstacles_decide
