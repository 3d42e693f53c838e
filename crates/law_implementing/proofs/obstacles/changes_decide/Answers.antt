-- The answer to the goal of `obstacles::changes_decide`.
use Rattle.law_implementing.proofs.Deciding.{changes_decide}
use Rattle.law_implementing.proofs.obstacles.changes_decide.Goals as goal

pub returns : goal.returns
returns c = changes_decide
