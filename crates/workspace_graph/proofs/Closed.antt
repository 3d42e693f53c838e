-- The marked packages are the closure.
use Rattle.std.proofs.Common.{ℕ, ◌↔◌, List, Bool, length}
use Rattle.workspace_graph.specs.Imports.{LinkTable, Reaches}
use Rattle.workspace_graph.specs.Search.{IsMarked, ListsMarked}
use Rattle.workspace_graph.specs.Closures.{IsClosureList}
use Rattle.workspace_graph.proofs.SearchSteps.{marked_within}

pub closed_is : (g : LinkTable) (number : ℕ) (marks : List Bool) (numbers : List ℕ) → ((q : ℕ) → IsMarked marks q ↔ Reaches g number q) →
    ListsMarked marks (length marks) numbers → IsClosureList g number numbers
closed_is g number marks numbers reached held = record {
  reached = λ q. (
    λ c. (reached q).0 ((held.each q).0 c).1,
    λ r. let m = (reached q).1 r in (held.each q).1 (marked_within marks q m, m),
  );
  rising = held.rising;
}
