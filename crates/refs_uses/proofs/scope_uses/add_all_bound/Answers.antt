-- The answers to the goals of `scope_uses::add_all_bound`.
use Rattle.std.proofs.Common.{◌≡◌, length, arith}
use Rattle.go_scope.specs.Bindings.{IsBoundTo}
use Rattle.types_declared.specs.PackageView.{package_of}
use Rattle.refs_binding.specs.Identifiers.{BeginsAt}
use Rattle.refs_binding.proofs.Adding.{below_none, below_next, all_below}
use Rattle.refs_uses.proofs.scope_uses.add_all_bound.Goals as goal

pub loop-u-init : goal.loop-u-init
loop-u-init c = let p = package_of c.args.unit in below_none (λ u place. BeginsAt p place.path place.offset u × IsBoundTo p.layout p.names u c.args.d)
    c.args.found.now.items

pub loop-u-preserved : goal.loop-u-preserved
loop-u-preserved c =
    let p = package_of c.args.unit in
    below_next (λ u place. BeginsAt p place.path place.offset u × IsBoundTo p.layout p.names u c.args.d)
    c.args.found.now.items c.loop-u.found.items c.add_bound.new.found.items c.loop-u.u c.loop-u.invariant c.in_ok-add_bound.ensures

pub returns : goal.returns
returns c =
    let p = package_of c.args.unit in
    let e : c.loop-u.u ≡ length c.args.unit.table.now.sites = omega (arith, c.len-u-end.ensures) in
    all_below p (λ u. IsBoundTo p.layout p.names u c.args.d) c.loop-u.u c.args.found.now.items c.loop-u.found.items e c.loop-u.invariant
