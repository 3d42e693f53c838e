-- The places of the declarations that were passed.
use Rattle.types_declared.specs.PackageView.{package_of}
use Rattle.refs_binding.proofs.NamedPlaces.{PlacesBelow}
use Rattle.refs_binding.specs.DeclaringPlaces.{IsScopeAt}
use Rattle.refs_places.proofs.declared_places.name_places.Given as goal

abbrev pub invariant-loop-d : goal.invariant-loop-d
invariant-loop-d l = PlacesBelow (IsScopeAt (package_of l.fn.unit)) l.d l.places.items
