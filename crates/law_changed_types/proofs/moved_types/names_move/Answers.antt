-- The answers to the goals of `moved_types::names_move`.
use Rattle.law_changed_types.proofs.MovedTypesWorlds.{names_move}
use Rattle.law_changed_types.proofs.moved_types.names_move.Goals as goal

pub returns : goal.returns
returns c = names_move
