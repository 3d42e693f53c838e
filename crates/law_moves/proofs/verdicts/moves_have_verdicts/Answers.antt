-- The answers to the goals of `verdicts::moves_have_verdicts`.
use Rattle.law_moves.proofs.MovedVerdictsLaws.{verdicts}
use Rattle.law_moves.proofs.verdicts.moves_have_verdicts.Goals as goal

pub returns : goal.returns
returns c = verdicts
