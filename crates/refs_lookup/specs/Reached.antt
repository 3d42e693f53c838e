-- The paths that the closure of a package imports.
use Rattle.std.specs.Prelude.{ℕ, ◌↔◌, List, Contains}
use Rattle.base_files.specs.Packages.{package_files}
use Rattle.base_files.specs.Workspace.{Workspace}
use Rattle.workspace_graph.specs.Packages.{PackageImports, IsInClosure}

-- `p` itself, or a path that a package in the closure of `p` imports. There need not be a package of that path.
pub data IsReached (w : Workspace) (p : List ℕ) : List ℕ → Type 0 where
  start : IsReached w p p
  imported : {r q : List ℕ} → IsInClosure w p r → PackageImports w r q → IsReached w p q

-- Each path reached from `p` in `w` has the same files in both workspaces.
abbrev pub HasSameReached : Workspace → Workspace → List ℕ → Type 0
HasSameReached w x p = (q : List ℕ) → IsReached w p q → (file : List ℕ × List ℕ) → Contains (package_files w q) file ↔ Contains (package_files x q) file
