-- The answers to the goals of `unnamed_obstacles::names_of_members_stay`.
use Rattle.law_implementing.proofs.NamesKept.{moves_turn_none, unnamed_renames_turn_none}
use Rattle.law_implementing.proofs.unnamed_obstacles.names_of_members_stay.Goals as goal

pub returns-clause-unnamed : goal.returns-clause-unnamed
returns-clause-unnamed c = unnamed_renames_turn_none

pub returns-clause-moves : goal.returns-clause-moves
returns-clause-moves c = moves_turn_none
