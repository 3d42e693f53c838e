-- The answers to the goals of `own_names::add_listed_name`.
use Rattle.std.proofs.Common.{sym, subst}
use Rattle.std.specs.Prelude.{OnOk}
use Rattle.types_declared.specs.PackageView.{package_of}
use Rattle.refs_binding.specs.Binding.{DeclaresMember}
use Rattle.refs_binding.specs.Steps.{AddsPlaces, UsesIn}
use Rattle.refs_uses.proofs.SomeMembers.{field_listed, method_listed}
use Rattle.refs_uses.proofs.own_names.add_listed_name.Goals as goal

pub returns-in-Field : goal.returns-in-Field
returns-in-Field c =
    let p = package_of c.args.unit in
    let a = c.args.found.now.items in
    let b = c.add_if_own.new.found.items in
    subst (λ d. OnOk c.add_if_own.result (AddsPlaces a b (UsesIn p (λ u. DeclaresMember p u d)))) (sym c.in-Field.is)
    (field_listed p c.in-Field.symbol c.args.places.now.fields.items _ c.deref.ensures.value c.requires.places.fields a b c.add_if_own.result
    c.add_if_own.ensures)

pub returns-in-Method : goal.returns-in-Method
returns-in-Method c =
    let p = package_of c.args.unit in
    let a = c.args.found.now.items in
    let b = c.add_if_own-in-Method.new.found.items in
    subst (λ d. OnOk c.add_if_own-in-Method.result (AddsPlaces a b (UsesIn p (λ u. DeclaresMember p u d)))) (sym c.in-Method.is)
    (method_listed p c.in-Method.symbol c.args.places.now.methods.items _ c.deref-in-Method.ensures.value c.requires.places.methods a b
    c.add_if_own-in-Method.result c.add_if_own-in-Method.ensures)
