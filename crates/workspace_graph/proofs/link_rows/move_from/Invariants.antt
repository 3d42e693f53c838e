-- The bounds that were passed were moved.
use Rattle.std.proofs.Common.{◌+◌, ◌-◌}
use Rattle.workspace_graph.proofs.InPlace.{AreReplacedBy}
use Rattle.workspace_graph.proofs.link_rows.move_from.Given as goal

abbrev pub invariant-loop-index : goal.invariant-loop-index
invariant-loop-index l = AreReplacedBy (λ end. end - l.down + l.up) l.begin l.index l.initial.bounds.items l.bounds.items
