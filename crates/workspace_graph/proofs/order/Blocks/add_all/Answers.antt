-- One block more.
use Rattle.std.proofs.Common.{arith}
use Rattle.workspace_graph.proofs.order.Blocks.add_all.Goals as goal

pub add-requires : goal.add-requires
add-requires c = record {
  linked = c.requires.linked;
  back = c.requires.back;
  root = omega (arith, c.len.ensures, c.if-root-len.true);
  told = c.loop-root.invariant;
}
