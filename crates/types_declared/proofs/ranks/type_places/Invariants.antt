-- The invariants of the loops of `ranks::type_places`.
use Rattle.std.proofs.Common.{◌≡◌, map, take}
use Rattle.types_declared.specs.Package.{type_place}
use Rattle.types_declared.specs.DeclaredView.{type_of}
use Rattle.types_declared.proofs.ranks.type_places.Given as goal

abbrev pub invariant-loop-definition : goal.invariant-loop-definition
invariant-loop-definition l = l.places.items ≡ map type_place (map type_of (take l.definition-index l.types))
