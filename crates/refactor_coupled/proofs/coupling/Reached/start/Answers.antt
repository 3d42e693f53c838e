-- The answers to the goals of `coupling::Reached::start`.
use Rattle.std.proofs.Common.{◌≡◌, ◌<◌, length, rules, arith, ap}
use Rattle.types_expr.specs.declared.symbol.Symbol.{Symbol}
use Rattle.std.specs.Prelude.{List}
use Rattle.refactor_coupled.proofs.ReachedMore.{all_started, next_started, none_started}
use Rattle.refactor_coupled.proofs.coupling.Reached.start.Goals as goal

pub loop-index-init : goal.loop-index-init
loop-index-init c = none_started c.args.types.now c.args.symbol.now c.args.self.now c.requires.order c.requires.empty

pub start_at-requires : goal.start_at-requires
start_at-requires c =
    let within : c.loop-index.index < length c.args.self.now.called.items = search rules in
    let size = c.loop-index.invariant.order.size in
    let same = ap (λ (l : List Symbol). length l) c.loop-index.invariant.called in
    omega (arith, within, size, same)

pub loop-index-preserved : goal.loop-index-preserved
loop-index-preserved c =
    let within : c.loop-index.index < length c.args.self.now.called.items = search rules in
    next_started c.args.types.now c.args.symbol.now c.args.self.now c.loop-index.index c.loop-index.self c.start_at.new.self within c.loop-index.invariant
    c.in_ok-start_at.ensures

pub returns : goal.returns
returns c =
    let end : c.loop-index.index ≡ length c.args.self.now.called.items = search rules in
    all_started c.args.types.now c.args.symbol.now c.args.self.now c.loop-index.index c.loop-index.self end c.loop-index.invariant
