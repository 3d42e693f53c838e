-- Those of the others that were passed are in.
use Rattle.std.proofs.Common.{take}
use Rattle.workspace_graph.specs.Updated.{AreUpdated}
use Rattle.workspace_graph.proofs.updated.updated.Given as goal

abbrev pub invariant-loop-one : goal.invariant-loop-one
invariant-loop-one l = AreUpdated l.before.items (take l.one-index l.fresh) l.packages.items
