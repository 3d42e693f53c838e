-- The answer to the goal of `there::names_apart_from_move_stay`.
use Rattle.law_moves.proofs.NamesAt.{names_apart}
use Rattle.law_moves.proofs.there.names_apart_from_move_stay.Goals as goal

pub returns : goal.returns
returns c = names_apart
