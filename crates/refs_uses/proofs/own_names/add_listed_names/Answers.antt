-- The answers to the goals of `own_names::add_listed_names`.
use Rattle.std.proofs.Common.{List, arith, subst}
use Rattle.std.proofs.lemmas.List.{take_all}
use Rattle.types_declared.specs.PackageView.{package_of}
use Rattle.refs_binding.specs.declared.declaration.Declaration.{Declaration}
use Rattle.refs_binding.specs.Binding.{DeclaresMember}
use Rattle.refs_binding.specs.Steps.{AddsPlaces, UsesIn}
use Rattle.refs_uses.specs.SoughtMembers.{IsPlaceOfSome}
use Rattle.refs_uses.proofs.SomeMembers.{some_more, some_none}
use Rattle.refs_uses.proofs.own_names.add_listed_names.Goals as goal

pub loop-declaration-init : goal.loop-declaration-init
loop-declaration-init c =
    let p = package_of c.args.unit in
    some_none (λ (d : Declaration). UsesIn p (λ u. DeclaresMember p u d)) c.args.found.now.items

pub loop-declaration-preserved : goal.loop-declaration-preserved
loop-declaration-preserved c =
    let p = package_of c.args.unit in
    some_more (λ (d : Declaration). UsesIn p (λ u. DeclaresMember p u d)) c.args.set.now c.loop-declaration.declaration-index c.declaration-item.result
    c.args.found.now.items c.loop-declaration.found.items c.add_listed_name.new.found.items c.loop-declaration-test.true c.declaration-item.is
    c.loop-declaration.invariant c.in_ok-add_listed_name.ensures

pub returns : goal.returns
returns c =
    let p = package_of c.args.unit in
    subst (λ (l : List Declaration). AddsPlaces c.args.found.now.items c.loop-declaration.found.items
    (IsPlaceOfSome l (λ d. UsesIn p (λ u. DeclaresMember p u d))))
    (take_all c.loop-declaration.declaration-index c.args.set.now (omega (arith, c.loop-declaration-test.false))) c.loop-declaration.invariant
