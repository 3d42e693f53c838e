-- Rows of numbers that lie one behind another in one list, by their bounds.
use Rattle.std.specs.Prelude.{ℕ, ◌-◌, ◌<◌, ◌≤◌, List, [], ◌∷◌, length, slice_index_or, slice_range}
use Rattle.workspace_graph.specs.Imports.{LinkTable}

-- The rows: each has the numbers from one bound to before the next.
abbrev pub rows_of : List ℕ → List ℕ → LinkTable
rows_of [] numbers = []
rows_of (start ∷ []) numbers = []
rows_of (start ∷ end ∷ bounds) numbers = slice_range numbers start end ∷ rows_of (end ∷ bounds) numbers

-- The last bound, or 0 where there is none.
abbrev pub last_bound : List ℕ → ℕ
last_bound bounds = slice_index_or bounds (length bounds - 1) 0

-- There is a bound, the bounds never fall, and the last one is within the list.
pub record AreBounds (bounds numbers : List ℕ) : Type 0 where
  pub some : 0 < length bounds
  pub rising : (i j : ℕ) → i ≤ j → j < length bounds → slice_index_or bounds i 0 ≤ slice_index_or bounds j 0
  pub within : last_bound bounds ≤ length numbers
