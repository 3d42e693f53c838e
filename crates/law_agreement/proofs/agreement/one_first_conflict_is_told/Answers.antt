-- The answer to the goal of `agreement::one_first_conflict_is_told`.
use Rattle.law_agreement.proofs.OneAnswer.{one_answer}
use Rattle.law_agreement.proofs.agreement.one_first_conflict_is_told.Goals as goal

pub returns : goal.returns
returns c = one_answer
