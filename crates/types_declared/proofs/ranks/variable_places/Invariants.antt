-- The invariants of the loops of `ranks::variable_places`.
use Rattle.std.proofs.Common.{◌≡◌, map, take}
use Rattle.types_declared.specs.Package.{variable_place}
use Rattle.types_declared.specs.DeclaredView.{variable_of}
use Rattle.types_declared.proofs.ranks.variable_places.Given as goal

abbrev pub invariant-loop-variable : goal.invariant-loop-variable
invariant-loop-variable l = l.places.items ≡ map variable_place (map variable_of (take l.variable-index l.variables))
