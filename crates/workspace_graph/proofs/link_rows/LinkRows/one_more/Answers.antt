-- One bound more than rows.
use Rattle.std.proofs.Common.{length, ap, arith}
use Rattle.workspace_graph.proofs.LinkRows.{rows_size}
use Rattle.workspace_graph.proofs.link_rows.LinkRows.one_more.Goals as goal

pub returns : goal.returns
returns c =
    let size = rows_size c.self.inside.bounds.items c.self.inside.numbers.items in
    let same = ap length c.self.view_is in
    omega (arith, c.len.ensures, c.self.inside.bounds.ok.0, c.self.invariant.some)
