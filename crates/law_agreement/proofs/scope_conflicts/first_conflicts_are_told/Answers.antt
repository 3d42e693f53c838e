-- The answer to the goal of `scope_conflicts::first_conflicts_are_told`.
use Rattle.law_agreement.proofs.Whole.{first_told}
use Rattle.law_agreement.proofs.scope_conflicts.first_conflicts_are_told.Goals as goal

pub returns : goal.returns
returns c = first_told
