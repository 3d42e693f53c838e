-- The links of packages after one package was inserted among them.
use Rattle.std.specs.Prelude.{◌≡◌, ℕ, ◌+◌, ◌<◌, ◌≤◌, true, List, [], ◌∷◌, Some, length, slice_get}
use Rattle.std.specs.List.{All, AllZip, Contains, insert}
use Rattle.std.specs.List.Sorted.{IsStrictlyIncreasing}
use Rattle.workspace_graph.specs.Changed.{has_file}
use Rattle.workspace_graph.specs.Graphs.{paths_of}
use Rattle.workspace_graph.specs.ImportPaths.{AnyImports}
use Rattle.workspace_graph.specs.Imports.{LinkTable, AreImporters, AreLinked, row_of}
use Rattle.workspace_graph.specs.Rows.{IsRow}
use Rattle.workspace_graph.specs.Shifts.{Splits, ShiftsRow, shifted}
use Rattle.workspace_graph.specs.Updated.{IsPlace}
use Rattle.workspace_graph.specs.declared.package.ParsedPackage.{ParsedPackage}

-- For each package, the row has the numbers of those that its files import.
abbrev pub AreRows : List ParsedPackage → LinkTable → Type 0
AreRows packages rows = AllZip (λ p row. IsRow (paths_of packages) p.trees.items row) packages rows

-- One of the packages was inserted at `place`, and `links` are the links of the others before that.
pub record HasNewPackage (packages : List ParsedPackage) (links : LinkTable) (place : ℕ) : Type 0 where
  pub before : List ParsedPackage
  pub one : ParsedPackage
  pub within : place ≤ length before
  pub put : packages ≡ insert before place one
  pub rows : AreRows before links

-- The only fresh package is `one`. It has a file, and none of the packages before has its path, which belongs at `place` among theirs.
pub record IsOnlyNew (before fresh : List ParsedPackage) (one : ParsedPackage) (place : ℕ) : Type 0 where
  pub alone : fresh ≡ one ∷ []
  pub file : has_file one ≡ true
  pub stands : IsPlace (paths_of before) one.path.items place

-- The package of that number imports the path.
abbrev pub ImportsAt : List ParsedPackage → List ℕ → ℕ → Type 0
ImportsAt packages path number = (p : ParsedPackage) × ((slice_get packages number ≡ Some p) × AnyImports p.trees.items path)

-- The rows `before` belong to packages before one is inserted at `place`. `linked` are the numbers, after that, of the rows that gain
-- `place`, in increasing order.
pub record IsGrowing (before : LinkTable) (place : ℕ) (linked : List ℕ) : Type 0 where
  pub within : place ≤ length before
  pub numbers : AreLinked before
  pub rising : IsStrictlyIncreasing linked
  pub inside : All (λ p. p ≤ length before) linked

-- `rows` are the first rows after the package was inserted. Its own row is `own`. The others are the shifted rows of `before`, and those of
-- `linked` gain `place`.
pub record AreGrown (place : ℕ) (own linked : List ℕ) (before rows : LinkTable) : Type 0 where
  pub within : length rows ≤ length before + 1
  pub own_row : place < length rows → row_of rows place ≡ own
  pub each : (q : ℕ) → shifted place q < length rows →
      ShiftsRow place (Contains linked (shifted place q)) (row_of before q) (row_of rows (shifted place q))

-- The rows from `number` to before `stop` are only shifted. Row `stop` is the new package's own, or gains `place`, or is past the last row.
pub record IsStop (place count : ℕ) (linked : List ℕ) (index number stop : ℕ) : Type 0 where
  pub from : number ≤ stop
  pub within : stop ≤ count
  pub upto_place : number ≤ place → stop ≤ place
  pub passed : Splits linked index stop
  pub told : stop < count → (stop ≡ place → ⊥) → Contains linked stop

-- `importers` has the importers of the first `count` packages, in increasing order.
pub record AreFirstImporters (g : LinkTable) (count : ℕ) (importers : LinkTable) : Type 0 where
  pub size : length importers ≡ count
  pub each : (q : ℕ) → q < count → AreImporters g q (row_of importers q)
  pub rising : (q : ℕ) → q < count → IsStrictlyIncreasing (row_of importers q)
