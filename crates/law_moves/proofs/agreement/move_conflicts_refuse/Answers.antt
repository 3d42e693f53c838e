-- The answer to the goal of `agreement::move_conflicts_refuse`.
use Rattle.law_moves.proofs.MoveAgreementLaws.{refuses}
use Rattle.law_moves.proofs.agreement.move_conflicts_refuse.Goals as goal

pub returns : goal.returns
returns c = refuses
