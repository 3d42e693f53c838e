-- The answer to the goal of `agreement::preserved_loses_none`.
use Rattle.law_agreement.proofs.Laws.{preserved_loses_none}
use Rattle.law_agreement.proofs.plain_agreement.preserved_loses_none.Goals as goal

pub returns : goal.returns
returns c = preserved_loses_none
