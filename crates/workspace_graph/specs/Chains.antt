-- Importers while they are collected: all in one list, in which those of one package are chained.
use Rattle.std.specs.Prelude.{◌≡◌, ℕ, ◌+◌, ◌<◌, ◌≤◌, List, [], ◌∷◌, ◌++◌, Some, length, slice_get, slice_index_or}
use Rattle.workspace_graph.specs.Imports.{LinkTable, AddsImporter, row_of}
use Rattle.workspace_graph.specs.declared.importers.NotedImporter.{NotedImporter}
use Rattle.workspace_graph.specs.declared.importers.Chains.{Chains}

-- `list` has the importers of one package in the order in which they were noted. The chain ends at place `left` of the noted list, counted
-- from 1.
pub data IsChain (noted : List NotedImporter) : ℕ → List ℕ → Type 0 where
  none : {left : ℕ} {list : List ℕ} → left ≡ 0 → list ≡ [] → IsChain noted left list
  more : {left : ℕ} {list : List ℕ} (place : ℕ) (n : NotedImporter) (rest : List ℕ) → left ≡ place + 1 → slice_get noted place ≡ Some n → n.before ≤ place →
      IsChain noted n.before rest → list ≡ rest ++ n.importer ∷ [] → IsChain noted left list

-- For each package, its chain begins at its latest importer and gives its list of `lists`.
pub record AreChained (chains : Chains) (lists : LinkTable) : Type 0 where
  pub size : length lists ≡ length chains.latest.items
  pub each : (q : ℕ) → q < length lists → IsChain chains.noted.items (slice_index_or chains.latest.items q 0) (row_of lists q)

-- The importer was added to the lists of all packages of its row, which are chained.
abbrev pub AddsChained : LinkTable → List ℕ → ℕ → Chains → Type 0
AddsChained lists row importer chains = (new : LinkTable) × AreChained chains new × AddsImporter lists row importer new
