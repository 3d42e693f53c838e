-- Searches along links: the packages that a search finds, and the marks that it sets.
use Rattle.std.specs.Prelude.{ℕ, ◌≡◌, ◌+◌, ◌<◌, ◌≤◌, ◌⊎◌, ◌↔◌, Bool, true, false, not, List, length, count_by, slice_index_or}
use Rattle.std.specs.List.{Contains}
use Rattle.workspace_graph.specs.Imports.{LinkTable, Imports, Reaches, ListsBelow}

-- Package `q` is marked.
abbrev pub IsMarked : List Bool → ℕ → Type 0
IsMarked marks q = slice_index_or marks q false ≡ true

-- `found` lists exactly the packages that are marked in `marks` and not in `old`, each once.
pub record ListsNewMarks (old : List Bool) (found : List ℕ) (marks : List Bool) : Type 0 where
  pub size : length marks ≡ length old
  pub counted : length found + count_by (λ m. m) old ≡ count_by (λ m. m) marks
  pub kept : (q : ℕ) → IsMarked old q → IsMarked marks q
  pub fresh : (i : ℕ) → i < length found → IsMarked old (slice_index_or found i 0) → ⊥
  pub marked : (i : ℕ) → i < length found → IsMarked marks (slice_index_or found i 0)
  pub places : (q : ℕ) → IsMarked marks q → IsMarked old q ⊎ Contains found q
  pub once : (i j : ℕ) → i < j → j < length found → slice_index_or found i 0 ≡ slice_index_or found j 0 → ⊥

-- The packages for which `P` holds were marked, and no others. The list `found` became `more`, to which only such packages were added.
pub record MarksFound (found : List ℕ) (marks : List Bool) (more : List ℕ) (marked : List Bool) (P : ℕ → Type 0) : Type 0 where
  pub longer : length found ≤ length more
  pub same : (i : ℕ) → i < length found → slice_index_or more i 0 ≡ slice_index_or found i 0
  pub kept : (q : ℕ) → IsMarked marks q → IsMarked marked q
  pub holds : (q : ℕ) → P q → IsMarked marked q
  pub only : (q : ℕ) → IsMarked marked q → IsMarked marks q ⊎ P q
  pub behind : (i : ℕ) → length found ≤ i → i < length more → P (slice_index_or more i 0)

-- Each package that one of the first `count` found packages imports is marked.
abbrev pub AreImportsMarked : LinkTable → List ℕ → List Bool → ℕ → Type 0
AreImportsMarked g found marks count = (i : ℕ) → i < count → (q : ℕ) → Imports g (slice_index_or found i 0) q → IsMarked marks q

-- A search from `start` that passes no package marked in `old`: it found packages that `start` reaches, and marked all imports of each of
-- them.
pub record Visits (g : LinkTable) (start : ℕ) (old : List Bool) (found : List ℕ) (marks : List Bool) : Type 0 where
  pub finds : ListsNewMarks old found marks
  pub begun : IsMarked marks start
  pub followed : AreImportsMarked g found marks (length found)
  pub reached : (i : ℕ) → i < length found → Reaches g start (slice_index_or found i 0)

-- Each package that a marked package imports is marked.
abbrev pub AreClosedMarks : LinkTable → List Bool → Type 0
AreClosedMarks g marks = (p q : ℕ) → IsMarked marks p → Imports g p q → IsMarked marks q

-- All packages that `start` reaches were marked, itself among them, and no others.
pub record MarksReached (g : LinkTable) (start : ℕ) (old new : List Bool) : Type 0 where
  pub size : length new ≡ length old
  pub each : (q : ℕ) → IsMarked new q ↔ (IsMarked old q ⊎ Reaches g start q)

-- A package is marked exactly if one of the first `count` packages reaches it that is marked in `starts`.
pub record AreReached (g : LinkTable) (starts : List Bool) (count : ℕ) (marks : List Bool) : Type 0 where
  pub size : length marks ≡ length g
  pub each : (q : ℕ) → IsMarked marks q ↔ ((p : ℕ) × (p < count) × IsMarked starts p × Reaches g p q)

-- A package is marked exactly if it reaches one that is marked in `starts`.
pub record AreReaching (g : LinkTable) (starts marks : List Bool) : Type 0 where
  pub size : length marks ≡ length g
  pub each : (q : ℕ) → IsMarked marks q ↔ ((p : ℕ) × IsMarked starts p × Reaches g q p)

-- All packages that reach `start` were marked, itself among them, and no others.
pub record MarksReachingTo (g : LinkTable) (start : ℕ) (old new : List Bool) : Type 0 where
  pub size : length new ≡ length old
  pub each : (q : ℕ) → IsMarked new q ↔ (IsMarked old q ⊎ Reaches g q start)

-- Of the packages that `p` reaches, exactly those are marked that reach `p`.
abbrev pub MarksWayBack : LinkTable → ℕ → List Bool → Type 0
MarksWayBack g p marks = (q : ℕ) → Reaches g p q → IsMarked marks q ↔ Reaches g q p

-- Of the packages that `p` reaches, exactly those are marked that reach `p`. All others are marked too.
pub record UnmarksBelow (g : LinkTable) (p : ℕ) (marks : List Bool) : Type 0 where
  pub size : length marks ≡ length g
  pub back : MarksWayBack g p marks
  pub others : (q : ℕ) → q < length g → (IsMarked marks q → ⊥) → Reaches g p q

-- Each package is marked in `new` exactly if it is not marked in `old`.
pub record InvertsMarks (old new : List Bool) : Type 0 where
  pub size : length new ≡ length old
  pub each : (q : ℕ) → q < length old → slice_index_or new q false ≡ not (slice_index_or old q false)

-- The list has exactly the marked packages below `count`, in increasing order.
abbrev pub ListsMarked : List Bool → ℕ → List ℕ → Type 0
ListsMarked marks count list = ListsBelow (IsMarked marks) count list
