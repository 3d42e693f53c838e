-- The packages that a package imports, by number, as a row that is being collected.
use Rattle.std.specs.Prelude.{◌≡◌, ℕ, ◌↔◌, ◌⊎◌, List, Some, slice_get}
use Rattle.std.specs.List.{Contains}
use Rattle.std.specs.List.Sorted.{IsStrictlyIncreasing}
use Rattle.go_ast.specs.SourceFile.{FileParts, source_of}
use Rattle.workspace_graph.specs.Imports.{ListsExactly}
use Rattle.workspace_graph.specs.Packages.{ImportsPath}

-- The list `new` has the numbers of `old` and those for which `P` holds, and no others.
abbrev pub AddsNumbers : (ℕ → Type 0) → List ℕ → List ℕ → Type 0
AddsNumbers P old new = (j : ℕ) → Contains new j ↔ (Contains old j ⊎ P j)

-- The file imports the package of number `j`.
abbrev pub ImportsNumber : List (List ℕ) → FileParts → ℕ → Type 0
ImportsNumber paths file j = (q : List ℕ) × (slice_get paths j ≡ Some q) × ImportsPath (source_of file) q

-- One of the files imports the package of number `j`.
abbrev pub AnyImportsNumber : List (List ℕ) → List FileParts → ℕ → Type 0
AnyImportsNumber paths files j = (file : FileParts) × Contains files file × ImportsNumber paths file j

-- `row` has exactly the packages that some of the files import, in increasing order.
pub record IsRow (paths : List (List ℕ)) (files : List FileParts) (row : List ℕ) : Type 0 where
  pub each : ListsExactly row (AnyImportsNumber paths files)
  pub rising : IsStrictlyIncreasing row
