-- The place of a path among entries in the order of their paths.
use Rattle.std.specs.Prelude.{◌≡◌, ℕ, ◌<◌, ◌≤◌, true, false, List, Some, length, take, drop}
use Rattle.std.specs.FinMap.{find}
use Rattle.base_files.specs.Workspace.{path_cmp}
use Rattle.base_chunks.specs.Entries.{IsAfterAll, is_after, is_at}
use Rattle.base_files.specs.declared.table.PathEntry.{PathEntry}

-- The path is greater than the paths of all entries.
abbrev pub IsAfterAllPaths : {X : Type 0} → (path : List ℕ) → List (List ℕ × X) → Type 0
IsAfterAllPaths path es = IsAfterAll path_cmp path es

-- `n` entries have lesser paths, and the entry behind them, if there is one, does not.
pub record IsPathPlace {X : Type 0} (path : List ℕ) (es : List (List ℕ × X)) (n : ℕ) : Type 0 where
  pub within : n ≤ length es
  pub front : IsAfterAll path_cmp path (take n es)
  pub back : is_after path_cmp path (drop n es) ≡ false

-- The entry of number `n` has the path, and those before it have lesser paths.
pub record IsEntryNumber {X : Type 0} (path : List ℕ) (es : List (List ℕ × X)) (n : ℕ) : Type 0 where
  pub within : n < length es
  pub front : IsAfterAll path_cmp path (take n es)
  pub here : is_at path_cmp path (drop n es) ≡ true

-- The entry has the path, and the value at that path.
pub record IsEntryAt {X : Type 0} (path : List ℕ) (es : List (List ℕ × X)) (e : PathEntry X) : Type 0 where
  pub has_path : e.path.now ≡ path
  pub has_value : find path_cmp path es ≡ Some e.value.now
