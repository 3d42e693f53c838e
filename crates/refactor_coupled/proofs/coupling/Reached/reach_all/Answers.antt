-- The answers to the goals of `coupling::Reached::reach_all`.
use Rattle.std.proofs.Common.{◌≡◌, length, rules}
use Rattle.refactor_coupled.proofs.ReachedMore.{all_places, next_place, no_places}
use Rattle.refactor_coupled.proofs.coupling.Reached.reach_all.Goals as goal

pub loop-place-init : goal.loop-place-init
loop-place-init c = no_places c.args.types.now c.args.self.now c.requires

pub reach_from_place-requires : goal.reach_from_place-requires
reach_from_place-requires c = c.loop-place.invariant.more.ordered c.requires

pub loop-place-preserved : goal.loop-place-preserved
loop-place-preserved c =
    next_place c.args.types.now c.args.self.now c.requires c.loop-place.place c.loop-place.self c.reach_from_place.new.self c.loop-place.invariant
    c.in_ok-reach_from_place.ensures

pub returns : goal.returns
returns c =
    let end : c.loop-place.place ≡ length c.args.self.now.called.items = search rules in
    all_places c.args.types.now c.args.self.now c.requires c.loop-place.place c.loop-place.self end c.loop-place.invariant
