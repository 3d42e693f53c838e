-- The answer to the goal of `unnamed_obstacles::unnamed_obstacles_decide`.
use Rattle.law_implementing.proofs.UnnamedDecided.{unnamed_obstacles_decide}
use Rattle.law_implementing.proofs.unnamed_obstacles.unnamed_obstacles_decide.Goals as goal

pub returns : goal.returns
returns c = unnamed_obstacles_decide
