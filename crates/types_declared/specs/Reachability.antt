-- Reachability along links: the numbers that links lead to from the marked ones.
use Rattle.std.specs.Prelude.{ℕ, ◌≡◌, ◌<◌, ◌≤◌, ◌⊎◌, Bool, true, false, List, [], Option, Some, None, length, slice_get, slice_index_or, Contains}
use Rattle.std.specs.List.{count_by}
use Rattle.std.specs.Global.{Vec}

-- the numbers of a row of links; none where there is no row
abbrev pub links_from : Option (Vec ℕ) → List ℕ
links_from None = []
links_from (Some row) = row.items

-- a links to b: b is in the row of a
abbrev pub LinksTo : List (Vec ℕ) → ℕ → ℕ → Type 0
LinksTo links a b = Contains (links_from (slice_get links a)) b

-- links lead only to numbers that have a row
abbrev pub AreLinksInRange : List (Vec ℕ) → Type 0
AreLinksInRange links = (a b : ℕ) → LinksTo links a b → b < length links

-- the list marks the number q
abbrev pub HasMark : List Bool → ℕ → Type 0
HasMark marks q = slice_index_or marks q false ≡ true

-- found lists each marked number once, and no other
pub record ListsMarks (found : List ℕ) (marks : List Bool) : Type 0 where
  pub counted : length found ≡ count_by (λ m. m) marks
  pub marked : (i : ℕ) → i < length found → HasMark marks (slice_index_or found i 0)
  pub places : (q : ℕ) → HasMark marks q → (i : ℕ) × ((i < length found) × (slice_index_or found i 0 ≡ q))

-- The numbers with the property P were marked too, and no other. The list found was extended to more, and the marks to marked.
pub record AddsMarks (found : List ℕ) (marks : List Bool) (more : List ℕ) (marked : List Bool) (P : ℕ → Type 0) : Type 0 where
  pub size : length marked ≡ length marks
  pub longer : length found ≤ length more
  pub same : (i : ℕ) → i < length found → slice_index_or more i 0 ≡ slice_index_or found i 0
  pub keeps : (q : ℕ) → HasMark marks q → HasMark marked q
  pub holds : (q : ℕ) → P q → HasMark marked q
  pub only : (q : ℕ) → HasMark marked q → HasMark marks q ⊎ P q

-- the number has the property Begins, or links lead to it, directly or indirectly, from one that has it
pub data IsReachable (links : List (Vec ℕ)) (Begins : ℕ → Type 0) : ℕ → Type 0 where
  first : {q : ℕ} → Begins q → IsReachable links Begins q
  behind : {a b : ℕ} → IsReachable links Begins a → LinksTo links a b → IsReachable links Begins b

-- each number of found has the property Begins or comes after a number that links to it
abbrev pub IsOrdered : List (Vec ℕ) → (ℕ → Type 0) → List ℕ → Type 0
IsOrdered links Begins found =
    (i : ℕ) → i < length found → Begins (slice_index_or found i 0) ⊎ ((j : ℕ) × ((j < i) × LinksTo links (slice_index_or found j 0) (slice_index_or found i 0)))

-- found lists exactly the reached numbers; each that doesn't have the property Begins comes after one that links to it
pub record IsReachOrder (links : List (Vec ℕ)) (Begins : ℕ → Type 0) (found : List ℕ) : Type 0 where
  pub reached : (i : ℕ) → i < length found → IsReachable links Begins (slice_index_or found i 0)
  pub places : (q : ℕ) → IsReachable links Begins q → (i : ℕ) × ((i < length found) × (slice_index_or found i 0 ≡ q))
  pub ordered : IsOrdered links Begins found
