-- The answers to the goals of `called::SoughtTypes::add_among`.
use Rattle.std.proofs.Common.{arith}
use Rattle.refs_binding.proofs.AddingAll.{none_below, next_below}
use Rattle.refactor_coupled.specs.Called.{IsSoughtAt}
use Rattle.refactor_coupled.proofs.SoughtLists.{all_ranks}
use Rattle.refactor_coupled.proofs.called.SoughtTypes.add_among.Goals as goal

pub loop-rank-init : goal.loop-rank-init
loop-rank-init c =
    let t = c.args.self.now in
    none_below (IsSoughtAt t.types.now t.old.now t.new.now t.only_interfaces c.args.path.now c.args.own.now) c.args.found.now.items

pub loop-rank-preserved : goal.loop-rank-preserved
loop-rank-preserved c =
    let t = c.args.self.now in
    next_below (IsSoughtAt t.types.now t.old.now t.new.now t.only_interfaces c.args.path.now c.args.own.now) c.args.found.now.items
    c.loop-rank.found.items c.add_at.new.found.items c.loop-rank.rank c.loop-rank.invariant c.in_ok-add_at.ensures

pub returns : goal.returns
returns c =
    let t = c.args.self.now in
    all_ranks t.types.now t.old.now t.new.now t.only_interfaces c.args.path.now c.args.own.now c.loop-rank.rank c.args.found.now.items
    c.loop-rank.found.items (omega arith) c.loop-rank.invariant
