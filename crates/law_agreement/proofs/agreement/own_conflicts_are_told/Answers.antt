-- The answer to the goal of `agreement::own_conflicts_are_told`.
use Rattle.law_agreement.proofs.OwnConflicts.{own_conflicts_told}
use Rattle.law_agreement.proofs.agreement.own_conflicts_are_told.Goals as goal

pub returns : goal.returns
returns c = own_conflicts_told
