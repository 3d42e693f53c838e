-- The answer to the goal of `agreement::moves_agree`.
use Rattle.law_moves.proofs.MoveAgreementLaws.{agrees}
use Rattle.law_moves.proofs.agreement.moves_agree.Goals as goal

pub returns : goal.returns
returns c = agrees
