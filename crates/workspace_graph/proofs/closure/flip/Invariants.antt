-- The marks that were passed are flipped, the others as they were.
use Rattle.std.proofs.Common.{◌≡◌, ℕ, ◌<◌, ◌≤◌, false, not, length, get_or}
use Rattle.workspace_graph.proofs.closure.flip.Given as goal

abbrev pub invariant-loop-number : goal.invariant-loop-number
invariant-loop-number l = record {
  size : length l.marks.items ≡ length l.initial.marks.items;
  passed : (q : ℕ) → q < l.number → get_or l.marks.items q false ≡ not (get_or l.initial.marks.items q false);
  left : (q : ℕ) → l.number ≤ q → get_or l.marks.items q false ≡ get_or l.initial.marks.items q false;
}
