-- What following one package keeps: the row is noted, as far as the loop has come.
use Rattle.std.proofs.Common.{◌≡◌, Bool, List, length, take}
use Rattle.std.specs.List.{Contains}
use Rattle.workspace_graph.specs.Search.{ListsNewMarks, MarksFound}
use Rattle.workspace_graph.proofs.search.follow.Given as goal

abbrev pub invariant-loop-number : goal.invariant-loop-number
invariant-loop-number l = record {
  size : length l.marks.items ≡ length l.links;
  finds : (first : List Bool) → ListsNewMarks first l.initial.found.items l.initial.marks.items → ListsNewMarks first l.found.items l.marks.items;
  noted : MarksFound l.initial.found.items l.initial.marks.items l.found.items l.marks.items (Contains (take l.number-index l.number-items));
}
