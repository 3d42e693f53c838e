-- The packages after a change, where packages may be replaced, added and removed.
use Rattle.std.specs.Prelude.{◌≡◌, ℕ, ◌<◌, ◌≤◌, ◌⊎◌, true, List, length, map, slice_index_or, []}
use Rattle.std.specs.List.{Contains}
use Rattle.std.specs.List.Sorted.{IsStrictlySortedBy}
use Rattle.std.specs.declared.cmp.Ordering.TheVariants.{Less}
use Rattle.base_files.specs.Workspace.{path_cmp}
use Rattle.workspace_graph.specs.Changed.{has_file}
use Rattle.workspace_graph.specs.Graphs.{paths_of}
use Rattle.workspace_graph.specs.declared.package.ParsedPackage.{ParsedPackage}

-- `place` is the index at which `path` is inserted into sorted paths: lesser paths are before it, greater ones from it on.
pub record IsPlace (paths : List (List ℕ)) (path : List ℕ) (place : ℕ) : Type 0 where
  pub within : place ≤ length paths
  pub below : (k : ℕ) → k < place → path_cmp (slice_index_or paths k []) path ≡ Less
  pub above : (k : ℕ) → place ≤ k → k < length paths → path_cmp path (slice_index_or paths k []) ≡ Less

-- `new` is `old` without the item at `path`, sorted by path. `place` is the index at which an item with that path would be inserted.
pub record Removes {X : Type 0} (path_of : X → List ℕ) (path : List ℕ) (old new : List X) (place : ℕ) : Type 0 where
  pub sorted : IsStrictlySortedBy path_cmp (map path_of new)
  pub stands : IsPlace (map path_of new) path place
  pub from : (x : X) → Contains new x → Contains old x
  pub kept : (x : X) → Contains old x → (path_of x ≡ path → ⊥) → Contains new x

-- `new` is `old` with `one` in place of the item at its path, or added, sorted by path.
pub record SetsIn {X : Type 0} (path_of : X → List ℕ) (one : X) (old new : List X) : Type 0 where
  pub sorted : IsStrictlySortedBy path_cmp (map path_of new)
  pub each : (x : X) → Contains new x → (x ≡ one) ⊎ (Contains old x × (path_of x ≡ path_of one → ⊥))
  pub own : Contains new one
  pub kept : (x : X) → Contains old x → (path_of x ≡ path_of one → ⊥) → Contains new x

-- `new` is `old` with `one` in place of the package at its path, or added, sorted by path. If `one` has no file, it is left out.
pub record SetsPackage (one : ParsedPackage) (old new : List ParsedPackage) : Type 0 where
  pub sorted : IsStrictlySortedBy path_cmp (paths_of new)
  pub each : (p : ParsedPackage) → Contains new p → ((p ≡ one) × (has_file one ≡ true)) ⊎ (Contains old p × (p.path.items ≡ one.path.items → ⊥))
  pub own : has_file one ≡ true → Contains new one
  pub kept : (p : ParsedPackage) → Contains old p → (p.path.items ≡ one.path.items → ⊥) → Contains new p

-- `packages` are those of `before` with the packages `fresh` in place of those at their paths, or added, sorted by path. A fresh package
-- without a file is left out.
pub record AreUpdated (before fresh packages : List ParsedPackage) : Type 0 where
  pub sorted : IsStrictlySortedBy path_cmp (paths_of packages)
  pub each : (p : ParsedPackage) → Contains packages p → (Contains fresh p × (has_file p ≡ true)) ⊎
      (Contains before p × (Contains (paths_of fresh) p.path.items → ⊥))
  pub own : (p : ParsedPackage) → Contains fresh p → has_file p ≡ true → Contains packages p
  pub kept : (p : ParsedPackage) → Contains before p → (Contains (paths_of fresh) p.path.items → ⊥) → Contains packages p
