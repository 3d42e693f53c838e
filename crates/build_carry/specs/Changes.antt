-- The packages whose files a change changes, and the packages in whose closures these are.
use Rattle.std.specs.Prelude.{◌≡◌, ℕ, ◌<◌, ◌↔◌, Bool, List, length, Option, Some, slice_get}
use Rattle.std.specs.List.{Contains}
use Rattle.base_files.specs.Packages.{package_paths, package_files}
use Rattle.base_files.specs.Workspace.{Workspace}
use Rattle.workspace_graph.specs.Packages.{IsInClosure}
use Rattle.workspace_graph.specs.Search.{IsMarked}
use Rattle.workspace_check.specs.Closures.{HasSameClosure}
use Rattle.build_unit.specs.declared.unit.Unit.{Unit as PackageUnit}
use Rattle.build_carry.specs.Finished.{Table, IsFinished}

-- The package p has the same files, with the same texts, in both workspaces.
abbrev pub HasSameFiles : Workspace → Workspace → List ℕ → Type 0
HasSameFiles v w p = (e : List ℕ × List ℕ) → Contains (package_files v p) e ↔ Contains (package_files w p) e

-- `folders` lists exactly the packages whose files differ between v and w.
pub record AreChanged (v w : Workspace) (folders : List (List ℕ)) : Type 0 where
  pub changed : (q : List ℕ) → Contains folders q → HasSameFiles v w q → ⊥
  pub same : (q : List ℕ) → (Contains folders q → ⊥) → HasSameFiles v w q

-- The files of the packages at `folders` differ between v and w. Each of the first `count` packages of v that is not listed has the same
-- files in w.
pub record ListsDiffering (v w : Workspace) (count : ℕ) (folders : List (List ℕ)) : Type 0 where
  pub changed : (q : List ℕ) → Contains folders q → HasSameFiles v w q → ⊥
  pub same : (i : ℕ) (q : List ℕ) → i < count → slice_get (package_paths v) i ≡ Some q → (Contains folders q → ⊥) → HasSameFiles v w q

-- The files of the packages at `folders` differ between v and w. Each package of v that is not listed has the same files in w. Each of the
-- first `count` packages of w that is not listed is one of v.
pub record ListsComing (v w : Workspace) (count : ℕ) (folders : List (List ℕ)) : Type 0 where
  pub differing : ListsDiffering v w (length (package_paths v)) folders
  pub coming : (i : ℕ) (q : List ℕ) → i < count → slice_get (package_paths w) i ≡ Some q → (Contains folders q → ⊥) → Contains (package_paths v) q

-- Each package in the closure of p in v has the same files in v and w.
abbrev pub KeepsClosure : Workspace → Workspace → List ℕ → Type 0
KeepsClosure v w p = (q : List ℕ) → IsInClosure v p q → HasSameFiles v w q

-- `marks` has one mark for each package of v, by its number. A package is marked exactly where a package in its closure has other files in
-- w.
pub record MarkChanges (v w : Workspace) (marks : List Bool) : Type 0 where
  pub size : length marks ≡ length (package_paths v)
  pub changed : (i : ℕ) (p : List ℕ) → slice_get (package_paths v) i ≡ Some p → IsMarked marks i → KeepsClosure v w p → ⊥
  pub same : (i : ℕ) (p : List ℕ) → slice_get (package_paths v) i ≡ Some p → (IsMarked marks i → ⊥) → KeepsClosure v w p

-- `marks` has one mark for each package of w, by its number. A package is marked exactly where its path is among `folders`.
pub record MarkFolders (w : Workspace) (folders : List (List ℕ)) (marks : List Bool) : Type 0 where
  pub size : length marks ≡ length (package_paths w)
  pub each : (i : ℕ) (q : List ℕ) → slice_get (package_paths w) i ≡ Some q → IsMarked marks i ↔ Contains folders q

-- The closure of the package p in w contains a package whose path is among `folders`.
pub record ReachesFolder (w : Workspace) (folders : List (List ℕ)) (p : List ℕ) : Type 0 where
  pub path : List ℕ
  pub among : Contains folders path
  pub in_closure : IsInClosure w p path

-- `marks` has one mark for each package of w, by its number. A package is marked exactly where its closure contains a package whose path is
-- among `folders`.
pub record MarkClosures (w : Workspace) (folders : List (List ℕ)) (marks : List Bool) : Type 0 where
  pub size : length marks ≡ length (package_paths w)
  pub each : (i : ℕ) (p : List ℕ) → slice_get (package_paths w) i ≡ Some p → IsMarked marks i ↔ ReachesFolder w folders p

-- `found` is the unit that the package p keeps over a change from v to w. It has one exactly where p is finished in the table `old` of v,
-- and its closure has the same texts in v and w.
abbrev pub KeepsUnit : Workspace → Table → Workspace → List ℕ → Option PackageUnit → Type 0
KeepsUnit v old w p found = (unit : PackageUnit) → (found ≡ Some unit) ↔ (IsFinished v old p unit × HasSameClosure v w p)
