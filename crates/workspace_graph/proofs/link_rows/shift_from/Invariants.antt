-- The numbers that were passed were shifted.
use Rattle.workspace_graph.specs.Shifts.{shifted}
use Rattle.workspace_graph.proofs.InPlace.{AreReplacedBy}
use Rattle.workspace_graph.proofs.link_rows.shift_from.Given as goal

abbrev pub invariant-loop-index : goal.invariant-loop-index
invariant-loop-index l = AreReplacedBy (shifted l.place) l.begin l.index l.initial.numbers.items l.numbers.items
