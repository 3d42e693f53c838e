-- What a search keeps: what was passed is followed, and all that was found is reached.
use Rattle.std.proofs.Common.{◌-◌, ◌≤◌, length}
use Rattle.workspace_graph.specs.Search.{ListsNewMarks, AreImportsMarked, IsMarked}
use Rattle.workspace_graph.proofs.Reached.{AreFoundFrom}
use Rattle.workspace_graph.proofs.search.visit.Given as goal

abbrev pub invariant-loop-place : goal.invariant-loop-place
invariant-loop-place l = record {
  finds : ListsNewMarks l.fn.marks.items l.found.items l.marks.items;
  begun : IsMarked l.marks.items l.start;
  followed : AreImportsMarked l.links l.found.items l.marks.items l.place;
  reached : AreFoundFrom l.links l.start l.found.items;
  within : l.place ≤ length l.found.items;
}

abbrev pub decreases-loop-place : goal.decreases-loop-place
decreases-loop-place l = length l.links - l.place
