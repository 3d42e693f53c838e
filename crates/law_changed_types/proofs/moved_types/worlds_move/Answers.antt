-- The answers to the goals of `moved_types::worlds_move`.
use Rattle.law_changed_types.proofs.MovedTypesWorlds.{worlds_move}
use Rattle.law_changed_types.proofs.moved_types.worlds_move.Goals as goal

pub returns : goal.returns
returns c = worlds_move
