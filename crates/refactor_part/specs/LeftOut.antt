-- Files that are left out of a workspace.
use Rattle.std.specs.Prelude.{ℕ, ◌≡◌, ◌<◌, ◌↔◌, ◌⊎◌, true, List, None, Some, Contains, slice_get}
use Rattle.std.specs.FinMap as files
use Rattle.std.specs.FinMap.{entries}
use Rattle.base_files.specs.Packages.{package_paths, package_files}
use Rattle.base_files.specs.Workspace.{Workspace}
use Rattle.go_ast.specs.SourceFile.{FileParts}
use Rattle.workspace_graph.specs.FaultyFiles.{FaultyParts}
use Rattle.workspace_check.specs.Verdicts.{Verdicts}
use Rattle.refactor_part.specs.FaultlessPart.{is_of_faulty}

-- `paths` are those of the Go files, among these files, of packages with faults.
pub record AreOfFaulty (known : Verdicts) (files : List (List ℕ × List ℕ)) (paths : List (List ℕ)) : Type 0 where
  pub only : (path : List ℕ) → Contains paths path → is_of_faulty known path ≡ true
  pub all : (e : List ℕ × List ℕ) → Contains files e → is_of_faulty known e.0 ≡ true → Contains paths e.0

-- The path of a file with a tree, and that of a file without one.
abbrev pub path_of_tree : FileParts → List ℕ
path_of_tree file = file.path

abbrev pub path_of_unread : FaultyParts → List ℕ
path_of_unread file = file.path

-- Those of the first `count` packages of `w` that have faults are in these folders, and their Go files have these paths.
pub record AreFirstLeftOut (w : Workspace) (known : Verdicts) (count : ℕ) (folders paths : List (List ℕ)) : Type 0 where
  pub only_faulty : (q : List ℕ) → Contains folders q → Contains (package_paths w) q × ((known q).faulty ≡ true)
  pub each_faulty : (i : ℕ) (q : List ℕ) → i < count → slice_get (package_paths w) i ≡ Some q → (known q).faulty ≡ true → Contains folders q
  pub only_files : (path : List ℕ) → Contains paths path → is_of_faulty known path ≡ true
  pub each_file : (q : List ℕ) → Contains folders q → (e : List ℕ × List ℕ) → Contains (package_files w q) e → Contains paths e.0

-- The packages of `w` that have faults are in these folders, and their Go files have these paths.
pub record IsLeftOut (w : Workspace) (known : Verdicts) (folders paths : List (List ℕ)) : Type 0 where
  pub packages : (q : List ℕ) → Contains folders q ↔ (Contains (package_paths w) q × ((known q).faulty ≡ true))
  pub files : AreOfFaulty known (entries w) paths

-- `left` has no file at these paths. At every other path it has the file of `w`.
pub record LeavesOut (paths : List (List ℕ)) (w left : Workspace) : Type 0 where
  pub out : (path : List ℕ) → Contains paths path → files.get left path ≡ None
  pub kept : (path : List ℕ) → (Contains paths path → ⊥) → files.get left path ≡ files.get w path
