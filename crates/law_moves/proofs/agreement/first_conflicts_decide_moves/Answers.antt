-- The answer to the goal of `agreement::first_conflicts_decide_moves`.
use Rattle.law_moves.proofs.MoveAgreementLaws.{decides}
use Rattle.law_moves.proofs.agreement.first_conflicts_decide_moves.Goals as goal

pub returns : goal.returns
returns c = decides
