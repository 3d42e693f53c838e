-- The answers to the goals of `own_names::add_own_names`.
use Rattle.std.proofs.Common.{sym, subst}
use Rattle.std.specs.Prelude.{OnOk}
use Rattle.types_declared.specs.PackageView.{package_of}
use Rattle.refs_binding.specs.Binding.{DeclaresMember}
use Rattle.refs_binding.specs.Steps.{AddsPlaces, UsesIn}
use Rattle.refs_uses.proofs.own_names.add_own_names.Goals as goal

pub returns-in-Field : goal.returns-in-Field
returns-in-Field c =
    let p = package_of c.args.unit in
    subst (λ d. OnOk c.add_own_field.result (AddsPlaces c.args.found.now.items c.add_own_field.new.found.items (UsesIn p (λ u. DeclaresMember p u d))))
    (sym c.in-Field.is) c.add_own_field.ensures

pub returns-in-Method : goal.returns-in-Method
returns-in-Method c =
    let p = package_of c.args.unit in
    subst (λ d. OnOk c.add_own_method.result (AddsPlaces c.args.found.now.items c.add_own_method.new.found.items (UsesIn p (λ u. DeclaresMember p u d))))
    (sym c.in-Method.is) c.add_own_method.ensures
