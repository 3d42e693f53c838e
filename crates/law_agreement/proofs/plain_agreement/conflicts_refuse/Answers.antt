-- The answer to the goal of `agreement::conflicts_refuse`.
use Rattle.law_agreement.proofs.Laws.{conflicts_refuse}
use Rattle.law_agreement.proofs.plain_agreement.conflicts_refuse.Goals as goal

pub returns : goal.returns
returns c = conflicts_refuse
