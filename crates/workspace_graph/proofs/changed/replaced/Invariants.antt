-- The packages that were passed stand in the place of what was there.
use Rattle.std.proofs.Common.{take}
use Rattle.workspace_graph.specs.Changed.{AreReplaced}
use Rattle.workspace_graph.proofs.changed.replaced.Given as goal

abbrev pub invariant-loop-package : goal.invariant-loop-package
invariant-loop-package l = AreReplaced l.before.items (take l.package-index l.fresh) l.packages.items
