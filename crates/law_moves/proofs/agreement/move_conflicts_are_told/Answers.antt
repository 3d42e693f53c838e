-- The answer to the goal of `agreement::move_conflicts_are_told`.
use Rattle.law_moves.proofs.MoveAgreementLaws.{tells}
use Rattle.law_moves.proofs.agreement.move_conflicts_are_told.Goals as goal

pub returns : goal.returns
returns c = tells
