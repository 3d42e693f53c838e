-- Import links between packages by number, and the packages that they reach.
use Rattle.std.specs.Prelude.{ℕ, ◌≡◌, ◌<◌, ◌↔◌, ◌⊎◌, List, [], length}
use Rattle.std.specs.Prelude.{slice_index_or}
use Rattle.std.specs.List.{All, Contains}
use Rattle.std.specs.List.Sorted.{IsStrictlyIncreasing}

-- For each package, the numbers of those that it imports directly. Packages are numbered from 0.
abbrev pub LinkTable : Type 0
LinkTable = List (List ℕ)

-- Each number in the links is that of a package.
abbrev pub AreLinked : LinkTable → Type 0
AreLinked g = All (All (λ q. q < length g)) g

-- The packages that `p` imports directly.
abbrev pub row_of : LinkTable → ℕ → List ℕ
row_of g p = slice_index_or g p []

-- `p` imports `q` directly.
abbrev pub Imports : LinkTable → ℕ → ℕ → Type 0
Imports g p q = Contains (row_of g p) q

-- `p` imports `q`, directly or indirectly, or is `q`.
pub data Reaches (g : LinkTable) : ℕ → ℕ → Type 0 where
  itself : {p : ℕ} → p < length g → Reaches g p p
  through : {p q r : ℕ} → Imports g p q → Reaches g q r → Reaches g p r

-- The list has exactly the numbers below `count` for which `P` holds, in increasing order.
pub record ListsBelow (P : ℕ → Type 0) (count : ℕ) (list : List ℕ) : Type 0 where
  pub each : (p : ℕ) → Contains list p ↔ ((p < count) × P p)
  pub rising : IsStrictlyIncreasing list

-- The list contains exactly the numbers for which `P` holds.
abbrev pub ListsExactly : List ℕ → (ℕ → Type 0) → Type 0
ListsExactly ps P = (p : ℕ) → Contains ps p ↔ P p

-- The list contains exactly the packages in the closure of `p`: `p`, and all that it imports directly or indirectly.
abbrev pub IsClosure : LinkTable → ℕ → List ℕ → Type 0
IsClosure g p closure = ListsExactly closure (λ q. Reaches g p q)

-- The list contains exactly the packages that import `p` directly.
abbrev pub AreImporters : LinkTable → ℕ → List ℕ → Type 0
AreImporters g p importers = ListsExactly importers (λ q. Imports g q p)

-- For each package, the importers of it among the first `count` packages. They are in increasing order where the imports of each package
-- are.
pub record AreImporterRows (g : LinkTable) (count : ℕ) (importers : LinkTable) : Type 0 where
  pub size : length importers ≡ length g
  pub each : (q p : ℕ) → Contains (row_of importers q) p ↔ ((p < count) × Imports g p q)
  pub rising : ((p : ℕ) → IsStrictlyIncreasing (row_of g p)) → (q : ℕ) → IsStrictlyIncreasing (row_of importers q)

-- The importer was added to the rows of all packages in `row`, which are those that it imports.
pub record AddsImporter (old : LinkTable) (row : List ℕ) (importer : ℕ) (new : LinkTable) : Type 0 where
  pub size : length new ≡ length old
  pub each : (q p : ℕ) → Contains (row_of new q) p ↔ (Contains (row_of old q) p ⊎ ((p ≡ importer) × Contains row q))
  pub rising : IsStrictlyIncreasing row → ((q p : ℕ) → Contains (row_of old q) p → p < importer) → ((q : ℕ) → IsStrictlyIncreasing (row_of old q)) →
      (q : ℕ) → IsStrictlyIncreasing (row_of new q)
