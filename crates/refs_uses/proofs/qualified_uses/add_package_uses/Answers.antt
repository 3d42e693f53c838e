-- The answers to the goals of `qualified_uses::add_package_uses`.
use Rattle.std.proofs.Common.{◌≡◌, length, arith}
use Rattle.types_info.specs.QualifiedIdentifiers.{IsQualifiedByPath}
use Rattle.types_declared.specs.PackageView.{package_of}
use Rattle.refs_binding.specs.Identifiers.{BeginsAt}
use Rattle.refs_binding.proofs.Adding.{below_none, below_next, all_below}
use Rattle.refs_uses.proofs.qualified_uses.add_package_uses.Goals as goal

pub loop-u-init : goal.loop-u-init
loop-u-init c = let p = package_of c.args.unit in below_none
    (λ u place. BeginsAt p place.path place.offset u × (IsQualifiedByPath p u c.args.path.now × (p.names u ≡ c.args.name.now))) c.args.found.now.items

pub loop-u-preserved : goal.loop-u-preserved
loop-u-preserved c =
    let p = package_of c.args.unit in
    below_next (λ u place. BeginsAt p place.path place.offset u × (IsQualifiedByPath p u c.args.path.now × (p.names u ≡ c.args.name.now)))
    c.args.found.now.items c.loop-u.found.items c.add_package_use.new.found.items c.loop-u.u c.loop-u.invariant c.in_ok-add_package_use.ensures

pub returns : goal.returns
returns c =
    let p = package_of c.args.unit in
    let e : c.loop-u.u ≡ length c.args.unit.table.now.sites = omega (arith, c.len-u-end.ensures) in
    all_below p (λ u. (IsQualifiedByPath p u c.args.path.now × (p.names u ≡ c.args.name.now))) c.loop-u.u c.args.found.now.items c.loop-u.found.items e
    c.loop-u.invariant
