-- The answers to the goals of `known::all_known_move`.
use Rattle.law_moves.proofs.MovedVerdictsLaws.{all_known}
use Rattle.law_moves.proofs.known.all_known_move.Goals as goal

pub returns : goal.returns
returns c = all_known
