-- The places of paths in lists of paths.
use Rattle.std.specs.Prelude.{◌≡◌, ℕ, List, Some, slice_get}

-- the path has this place in the list, and no other
abbrev pub IsOnlyPlace : List (List ℕ) → (path : List ℕ) → (place : ℕ) → Type 0
IsOnlyPlace paths path place = (slice_get paths place ≡ Some path) × ((other : ℕ) → slice_get paths other ≡ Some path → other ≡ place)
