-- The answer to the goal of `agreement::first_conflicts_are_there`.
use Rattle.law_agreement.proofs.Laws.{conflicts_told}
use Rattle.law_agreement.proofs.plain_agreement.first_conflicts_are_there.Goals as goal

pub returns : goal.returns
returns c = conflicts_told
