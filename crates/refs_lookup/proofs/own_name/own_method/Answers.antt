-- The answers to the goals of `own_name::own_method`.
use Rattle.types_declared.specs.PackageView.{package_of}
use Rattle.refs_binding.proofs.NamedPlaces.{no_method_name, method_name}
use Rattle.refs_lookup.proofs.own_name.own_method.Goals as goal

pub returns-in-None : goal.returns-in-None
returns-in-None c =
    no_method_name (package_of c.args.unit) c.args.u c.place.result c.in_ok-places.places.items _ c.place.ensures c.deref.ensures.value
    c.in_ok-places.ensures c.in-None.ensures

pub returns : goal.returns
returns c =
    method_name (package_of c.args.unit) c.args.u c.place.result c.in-Some.rank c.in_ok-places.places.items _ c.place.ensures c.deref.ensures.value
    c.in_ok-places.ensures c.requires.stands c.in-Some.ensures
    c.in_ok-symbol-in-Some.field-0 c.in_ok-symbol-in-Some.ensures
