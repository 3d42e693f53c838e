-- The answers to the goals of `coupling::add_reached`.
use Rattle.std.proofs.Common.{◌≡◌, ◌<◌, length, rules, arith}
use Rattle.refactor_coupled.proofs.Listed.{all_added, next_added, none_added}
use Rattle.refactor_coupled.proofs.coupling.add_reached.Goals as goal

pub loop-index-init : goal.loop-index-init
loop-index-init c = none_added c.args.types.now c.args.reached.now c.args.set.now.items

pub add_at-requires : goal.add_at-requires
add_at-requires c =
    let within : c.loop-index.index < length c.args.reached.now.called.items = search rules in
    omega (arith, within, c.requires)

pub loop-index-preserved : goal.loop-index-preserved
loop-index-preserved c =
    next_added c.args.types.now c.args.reached.now c.args.set.now.items c.loop-index.set.items c.add_at.new.set.items c.loop-index.index
    c.loop-index.invariant c.in_ok-add_at.ensures

pub returns : goal.returns
returns c =
    let end : c.loop-index.index ≡ length c.args.reached.now.called.items = search rules in
    all_added c.args.types.now c.args.reached.now c.args.set.now.items c.loop-index.set.items c.loop-index.index end c.loop-index.invariant
