-- The answers to the goals of `declared_places::name_places`.
use Rattle.std.proofs.Common.{◌≡◌, ◌<◌, subst, sym, arith}
use Rattle.types_declared.specs.PackageView.{package_of}
use Rattle.refs_binding.proofs.Bound.{seen_within}
use Rattle.refs_binding.proofs.NamedPlaces.{no_places, next_place, all_places}
use Rattle.refs_binding.specs.DeclaringPlaces.{IsScopeAt}
use Rattle.refs_places.proofs.declared_places.name_places.Goals as goal

pub loop-d-init : goal.loop-d-init
loop-d-init c = no_places (IsScopeAt (package_of c.args.unit)) c.new-places.result.items c.new-places.ensures.items

pub loop-d-preserved : goal.loop-d-preserved
loop-d-preserved c =
    next_place (IsScopeAt (package_of c.args.unit)) c.loop-d.d c.loop-d.places.items c.push.new.self.items c.position_in.result c.in_ok-push.ensures.items
    c.position_in.ensures c.loop-d.invariant

pub returns : goal.returns
returns c =
    let p = package_of c.args.unit in
    let end : c.loop-d.d ≡ p.size = omega arith in
    all_places (IsScopeAt p) c.loop-d.d c.loop-d.places.items
    (λ rank at h. subst (λ n. rank < n) (sym end) (seen_within c.args.unit.table.now.sites rank h.counts)) c.loop-d.invariant
