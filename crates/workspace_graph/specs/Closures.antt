-- Closures by number, and the importers that links keep.
use Rattle.std.specs.Prelude.{ℕ, List, length}
use Rattle.std.specs.List.Sorted.{IsStrictlyIncreasing}
use Rattle.workspace_graph.specs.Imports.{LinkTable, AreLinked, ListsExactly, IsClosure, AreImporterRows, Reaches}

-- `closure` is the closure of `p`, in increasing order.
pub record IsClosureList (g : LinkTable) (p : ℕ) (closure : List ℕ) : Type 0 where
  pub reached : IsClosure g p closure
  pub rising : IsStrictlyIncreasing closure

-- `below` has the packages that `p` reaches and that do not reach `p`, in increasing order.
pub record IsBuiltOnList (g : LinkTable) (p : ℕ) (below : List ℕ) : Type 0 where
  pub each : ListsExactly below (λ q. Reaches g p q × (Reaches g q p → ⊥))
  pub rising : IsStrictlyIncreasing below

-- `noted` has the importers of all packages, and each number in `g` is that of a package.
pub record HaveImporters (g noted : LinkTable) : Type 0 where
  pub linked : AreLinked g
  pub importers : AreImporterRows g (length g) noted
