-- The answers to the goals of `agreement::halves_agree`.
use Rattle.law_agreement.proofs.Halves.{conflict_told, halves_agree}
use Rattle.law_agreement.proofs.agreement.halves_agree.Goals as goal

pub returns-clause-told : goal.returns-clause-told
returns-clause-told c = conflict_told

pub returns-clause-agree : goal.returns-clause-agree
returns-clause-agree c = halves_agree
