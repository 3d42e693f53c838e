-- Orders of packages in which each comes after those that it reaches and that do not reach it.
use Rattle.std.specs.Prelude.{ℕ, ◌≡◌, ◌+◌, ◌-◌, ◌*◌, ◌<◌, ◌↔◌, Bool, false, List, Some, length, count_by, slice_get, slice_index_or}
use Rattle.std.specs.List.{Contains}
use Rattle.workspace_graph.specs.Imports.{LinkTable, Reaches}
use Rattle.workspace_graph.specs.Search.{IsMarked, AreClosedMarks}
use Rattle.workspace_graph.specs.declared.depth_first.Entered.{Entered}
use Rattle.workspace_graph.specs.declared.order.Blocks.{Blocks}

-- `order` has all packages, each once. Each comes after those that it reaches and that do not reach it.
pub record IsOrder (g : LinkTable) (order : List ℕ) : Type 0 where
  pub each : (n : ℕ) → Contains order n ↔ (n < length g)
  pub once : (i j n : ℕ) → slice_get order i ≡ Some n → slice_get order j ≡ Some n → i ≡ j
  pub behind : (i n m : ℕ) → slice_get order i ≡ Some n → Reaches g n m → (Reaches g m n → ⊥) → (j : ℕ) × (j < i) × (slice_get order j ≡ Some m)

-- An entry of the list before number `i` is `m`.
abbrev pub IsBefore : List ℕ → ℕ → ℕ → Type 0
IsBefore order i m = (j : ℕ) × (j < i) × (slice_index_or order j 0 ≡ m)

-- The packages listed so far are marked, each once, in an order as in `IsOrder`. Every package that a listed one reaches is listed.
pub record AreListed (g : LinkTable) (b : Blocks) : Type 0 where
  pub size : length b.told.items ≡ length g
  pub bars : length b.barred.items ≡ length g
  pub closed : AreClosedMarks g b.told.items
  pub each : (n : ℕ) → IsMarked b.told.items n ↔ Contains b.order.items n
  pub once : (i j : ℕ) → i < j → j < length b.order.items → slice_index_or b.order.items i 0 ≡ slice_index_or b.order.items j 0 → ⊥
  pub behind : (i : ℕ) → i < length b.order.items → (m : ℕ) → Reaches g (slice_index_or b.order.items i 0) m →
      (Reaches g m (slice_index_or b.order.items i 0) → ⊥) → IsBefore b.order.items i m

-- None of the packages is marked.
abbrev pub AreClear : List ℕ → List Bool → Type 0
AreClear numbers marks = (q : ℕ) → Contains numbers q → slice_index_or marks q false ≡ false

-- A bound for the steps that a depth-first search has left: two for each package without a mark, and one for each on the path.
abbrev pub steps_left : List Bool → List Entered → ℕ
steps_left marks path = 2 * (length marks - count_by (λ m. m) marks) + length path
