-- The Go files of a folder as a package has them, compared with the workspace path by path.
use Rattle.std.specs.Prelude.{◌≡◌, ℕ, ◌⊎◌, true, List, map, Some}
use Rattle.std.specs.FinMap as files
use Rattle.std.specs.List.{Contains}
use Rattle.std.specs.List.Sorted.{IsStrictlySortedBy}
use Rattle.base_files.specs.Packages.{is_of_package}
use Rattle.base_files.specs.Workspace.{Workspace, path_cmp}
use Rattle.go_ast.specs.SourceFile.{FileParts, source_of}
use Rattle.workspace_graph.specs.FaultyFiles.{FaultyParts}
use Rattle.workspace_graph.specs.Packages.{IsParsed}
use Rattle.workspace_graph.specs.Parsed.{IsFaulty}

-- The path of a file that has a tree.
abbrev pub tree_path : FileParts → List ℕ
tree_path t = t.path

-- The path of a faulty file.
abbrev pub fault_path : FaultyParts → List ℕ
fault_path f = f.path

-- The paths of files that have trees.
abbrev pub tree_paths : List FileParts → List (List ℕ)
tree_paths trees = map tree_path trees

-- The paths of faulty files.
abbrev pub fault_paths : List FaultyParts → List (List ℕ)
fault_paths faulty = map fault_path faulty

-- `t` is the tree of a Go file that the workspace has in the folder `p`.
pub record IsTreeIn (w : Workspace) (p : List ℕ) (t : FileParts) : Type 0 where
  pub of_package : is_of_package p t.path ≡ true
  pub there : files.get w t.path ≡ Some t.cut.text
  pub parsed : IsParsed t.path t.cut.text (source_of t)

-- `f` is a Go file that the workspace has in the folder `p`, with the first fault of its text.
pub record IsFaultyIn (w : Workspace) (p : List ℕ) (f : FaultyParts) : Type 0 where
  pub of_package : is_of_package p f.path ≡ true
  pub there : files.get w f.path ≡ Some f.text
  pub faulty : IsFaulty f.path f.text f

-- `ts` and `fs` together are exactly the Go files that the workspace has in the folder `p`. Both are sorted by path, and no file is in
-- both.
pub record AreInFolder (w : Workspace) (p : List ℕ) (ts : List FileParts) (fs : List FaultyParts) : Type 0 where
  pub trees_sorted : IsStrictlySortedBy path_cmp (tree_paths ts)
  pub faulty_sorted : IsStrictlySortedBy path_cmp (fault_paths fs)
  pub tree : (t : FileParts) → Contains ts t → IsTreeIn w p t
  pub fault : (f : FaultyParts) → Contains fs f → IsFaultyIn w p f
  pub apart : (path : List ℕ) → Contains (tree_paths ts) path → Contains (fault_paths fs) path → ⊥
  pub all : (path text : List ℕ) → is_of_package p path ≡ true → files.get w path ≡ Some text → Contains (tree_paths ts) path ⊎ Contains (fault_paths fs) path
