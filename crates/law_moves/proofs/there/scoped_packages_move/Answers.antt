-- The answer to the goal of `there::scoped_packages_move`.
use Rattle.law_moves.proofs.NamesMove.{scoped_move}
use Rattle.law_moves.proofs.there.scoped_packages_move.Goals as goal

pub returns : goal.returns
returns c = scoped_move
