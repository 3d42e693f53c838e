-- Of no marks one is set.
use Rattle.std.proofs.Common.{rules, refl}
use Rattle.workspace_graph.proofs.BelowAlone.{one_marked}
use Rattle.workspace_graph.proofs.closure.one_marked.Goals as goal

pub returns : goal.returns
returns c = λ q.
    one_marked c.args.count c.args.one c.in_ok-marks.marks.items _ (c.in_ok-marks.ensures.items_if_clones_equal (search rules)) c.requires refl q
