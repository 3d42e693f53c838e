-- The numbers of packages after a new package was inserted among them.
use Rattle.std.specs.Prelude.{◌≡◌, ℕ, ◌+◌, ◌<◌, ◌≤◌, ◌↔◌, ◌⊎◌, List, map, length, slice_index_or, nat_lt, if◌then◌else◌}
use Rattle.std.specs.List.{Contains}
use Rattle.std.specs.List.Sorted.{IsStrictlyIncreasing}

-- The number, after a package was inserted at `place`, of the package that had `number` before.
abbrev pub shifted : ℕ → ℕ → ℕ
shifted place number = if nat_lt number place then number else number + 1

-- The numbers of a row after a package was inserted at `place`.
abbrev pub row_shifted : ℕ → List ℕ → List ℕ
row_shifted place row = map (shifted place) row

-- `row` has the shifted numbers of `before`, and also `place` itself if `P` holds.
pub record ShiftsRow (place : ℕ) (P : Type 0) (before row : List ℕ) : Type 0 where
  pub each : (p : ℕ) → Contains row p ↔ (((p ≡ place) × P) ⊎ Contains (row_shifted place before) p)
  pub rising : IsStrictlyIncreasing before → IsStrictlyIncreasing row

-- The first `index` numbers of the list are below `number`, and the others are not.
pub record Splits (list : List ℕ) (index number : ℕ) : Type 0 where
  pub within : index ≤ length list
  pub below : (k : ℕ) → k < index → slice_index_or list k 0 < number
  pub above : (k : ℕ) → index ≤ k → k < length list → number ≤ slice_index_or list k 0
