-- The answer to the goal of `agreement::preserved_moves_lose_none`.
use Rattle.law_moves.proofs.MoveAgreementLaws.{loses_none}
use Rattle.law_moves.proofs.agreement.preserved_moves_lose_none.Goals as goal

pub returns : goal.returns
returns c = loses_none
