-- The answers to the goals of `coupling::Reached::reach_from`.
use Rattle.std.proofs.Common.{◌≡◌, ◌<◌, length, rules, sym, subst}
use Rattle.refactor_coupled.proofs.ReachedMore.{all_reached, next_reached, none_reached}
use Rattle.refactor_coupled.proofs.coupling.Reached.reach_from.Goals as goal

pub loop-other-init : goal.loop-other-init
loop-other-init c = none_reached c.args.types.now c.args.index c.args.self.now

pub reach_if_coupled-requires-clause-order : goal.reach_if_coupled-requires-clause-order
reach_if_coupled-requires-clause-order c = c.loop-other.invariant.more.ordered c.requires

pub reach_if_coupled-requires-clause-within : goal.reach_if_coupled-requires-clause-within
reach_if_coupled-requires-clause-within c =
    let within : c.loop-other.other < length c.args.self.now.called.items = search rules in
    subst (λ l. c.loop-other.other < length l) (sym c.loop-other.invariant.more.called) within

pub loop-other-preserved : goal.loop-other-preserved
loop-other-preserved c =
    next_reached c.args.types.now c.args.index c.args.self.now c.loop-other.other c.loop-other.self c.reach_if_coupled.new.self c.loop-other.invariant
    c.in_ok-reach_if_coupled.ensures

pub returns : goal.returns
returns c =
    let end : c.loop-other.other ≡ length c.args.self.now.called.items = search rules in
    all_reached c.args.types.now c.args.index c.args.self.now c.loop-other.other c.loop-other.self end c.loop-other.invariant
