-- What the loop of `homes::home_marks` keeps.
use Rattle.std.proofs.Common.{take}
use Rattle.refs_places.specs.Homes.{MarksHomes}
use Rattle.refs_places.proofs.homes.home_marks.Given as goal

-- the packages of the declarations that were passed are marked
abbrev pub invariant-loop-declaration : goal.invariant-loop-declaration
invariant-loop-declaration l = MarksHomes l.graph (take l.declaration-index l.set) l.marks.items
