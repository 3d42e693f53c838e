-- The invariants of the loops of `own_names::field_places`.
use Rattle.types_declared.specs.PackageView.{package_of}
use Rattle.refs_binding.specs.Binding.{IsFieldAt}
use Rattle.refs_binding.proofs.NamedPlaces.{PlacesBelow}
use Rattle.refs_binding.proofs.own_names.field_places.Given as goal

abbrev pub invariant-loop-rank : goal.invariant-loop-rank
invariant-loop-rank l = PlacesBelow (IsFieldAt (package_of l.unit)) l.rank l.places.items
