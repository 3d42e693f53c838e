-- Nothing was noted.
use Rattle.std.proofs.Common.{rules, ◌≡◌, replicate}
use Rattle.workspace_graph.proofs.Chained.{chained_none}
use Rattle.workspace_graph.proofs.importers.Chains.new.Goals as goal

pub returns : goal.returns
returns c =
    let is : c.in_ok-vec.field-0.items ≡ replicate c.args.count 0 = c.in_ok-vec.ensures.items_if_clones_equal (search rules) in
    chained_none (record { latest = c.in_ok-vec.field-0; noted = c.new.result }) c.args.count is
