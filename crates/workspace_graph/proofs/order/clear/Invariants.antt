-- The packages that were passed have no mark.
use Rattle.std.proofs.Common.{◌≡◌, ℕ, ◌<◌, false, length, get_or}
use Rattle.workspace_graph.proofs.order.clear.Given as goal

abbrev pub invariant-loop-number : goal.invariant-loop-number
invariant-loop-number l = record {
  size : length l.marks.items ≡ length l.initial.marks.items;
  clear : (k : ℕ) → k < l.number-index → get_or l.marks.items (get_or l.numbers k 0) false ≡ false;
}
