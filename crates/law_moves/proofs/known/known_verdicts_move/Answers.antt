-- The answers to the goals of `known::known_verdicts_move`.
use Rattle.law_moves.proofs.MovedVerdictsLaws.{known_verdicts}
use Rattle.law_moves.proofs.known.known_verdicts_move.Goals as goal

pub returns : goal.returns
returns c = known_verdicts
