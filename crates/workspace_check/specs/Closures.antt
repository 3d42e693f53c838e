-- When the closure of a package has the same texts in two workspaces.
use Rattle.std.specs.Prelude.{ℕ, ◌↔◌, List, Contains}
use Rattle.base_files.specs.Workspace.{Workspace}
use Rattle.base_files.specs.Packages.{package_files}
use Rattle.workspace_graph.specs.Packages.{IsInClosure}

-- a file, with its text, of a package in the closure of p
pub record IsClosureText (w : Workspace) (p : List ℕ) (file : List ℕ × List ℕ) : Type 0 where
  pub path : List ℕ
  pub in_closure : IsInClosure w p path
  pub of_package : Contains (package_files w path) file

-- The closure of `p` has the same files, with the same texts, in both workspaces.
abbrev pub HasSameClosure : Workspace → Workspace → List ℕ → Type 0
HasSameClosure w x p = (file : List ℕ × List ℕ) → IsClosureText w p file ↔ IsClosureText x p file
