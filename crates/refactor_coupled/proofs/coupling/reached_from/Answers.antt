-- The answers to the goals of `coupling::reached_from`.
use Rattle.std.proofs.Common.{◌≡◌, [], length, rules}
use Rattle.refactor_coupled.proofs.ReachedMore.{empty_search, searched}
use Rattle.refactor_coupled.proofs.coupling.reached_from.Goals as goal

pub start-requires-clause-order : goal.start-requires-clause-order
start-requires-clause-order c =
    let size : c.len.result ≡ length c.in_ok-called.called.items = search rules in
    let empty : c.new-order.result.items ≡ [] = search rules in
    empty_search (record { called = c.in_ok-called.called; marks = c.in_ok-marks.marks; order = c.new-order.result }) c.len.result
    (c.in_ok-marks.ensures.items_if_clones_equal (search rules)) size empty

pub reach_all-requires : goal.reach_all-requires
reach_all-requires c = c.in_ok-start.ensures.order

pub returns : goal.returns
returns c =
    searched c.args.workspace.now c.args.types.now c.args.symbol.now
    (record { called = c.in_ok-called.called; marks = c.in_ok-marks.marks; order = c.new-order.result }) c.start.new.self c.reach_all.new.self
    c.in_ok-called.ensures c.in_ok-start.ensures c.in_ok-reach_all.ensures
