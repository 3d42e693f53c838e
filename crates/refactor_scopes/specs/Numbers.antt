-- Ascending lists of numbers, and the first number of some.
use Rattle.std.specs.Prelude.{ℕ, ◌<◌, ◌↔◌, List, Option, Some, None, length, get_or, Contains, if◌then◌else◌, nat_le}

-- The numbers are ascending, and exactly those below `size` of which `K` holds.
pub record ListsNumbers (K : ℕ → Type 0) (size : ℕ) (numbers : List ℕ) : Type 0 where
  pub ascending : (i j : ℕ) → i < j → j < length numbers → get_or numbers i 0 < get_or numbers j 0
  pub each : (u : ℕ) → Contains numbers u ↔ ((u < size) × K u)

-- The first number of which `K` holds, or that there is none.
abbrev pub IsFirstNumber : (K : ℕ → Type 0) → Option ℕ → Type 0
IsFirstNumber K None = (u : ℕ) → K u → ⊥
IsFirstNumber K (Some u) = K u × ((v : ℕ) → v < u → K v → ⊥)

-- The lesser of two numbers, where there are any.
abbrev pub earlier : Option ℕ → Option ℕ → Option ℕ
earlier None b = b
earlier (Some m) None = Some m
earlier (Some m) (Some n) = if nat_le m n then Some m else Some n
