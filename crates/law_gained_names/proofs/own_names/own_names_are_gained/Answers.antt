-- The answer to the goal of `own_names::own_names_are_gained`.
use Rattle.law_gained_names.proofs.OwnNamesLaws.{own_names_are_gained}
use Rattle.law_gained_names.proofs.own_names.own_names_are_gained.Goals as goal

pub returns : goal.returns
returns c = own_names_are_gained
