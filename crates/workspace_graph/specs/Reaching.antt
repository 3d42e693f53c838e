-- Reachability between the packages of a workspace by path, and marks for it.
use Rattle.std.specs.Prelude.{◌≡◌, ℕ, ◌↔◌, ◌⊎◌, Bool, List, Some, length, slice_get}
use Rattle.base_files.specs.Packages.{package_paths}
use Rattle.base_files.specs.Workspace.{Workspace}
use Rattle.workspace_graph.specs.Packages.{PackageImports, IsInClosure}
use Rattle.workspace_graph.specs.Search.{IsMarked}

-- `p` builds on `q`: it imports `q` directly or indirectly, and `q` does not import `p` directly or indirectly.
pub record BuildsOn (w : Workspace) (p q : List ℕ) : Type 0 where
  pub imported : IsInClosure w p q
  pub not_back : IsInClosure w q p → ⊥

-- Of the packages in the closure of `p`, exactly those are marked in whose closure `p` is.
abbrev pub AreBackMarks : Workspace → List ℕ → List Bool → Type 0
AreBackMarks w p marks = (i : ℕ) (q : List ℕ) → slice_get (package_paths w) i ≡ Some q → IsInClosure w p q → IsMarked marks i ↔ IsInClosure w q p

-- The closure of `p` contains a marked package.
pub record ReachesMarked (w : Workspace) (marks : List Bool) (p : List ℕ) : Type 0 where
  pub number : ℕ
  pub path : List ℕ
  pub has_path : slice_get (package_paths w) number ≡ Some path
  pub marked : IsMarked marks number
  pub in_closure : IsInClosure w p path

-- `reaching` marks exactly the packages whose closure contains a package that `marks` marks.
pub record ReachingMarks (w : Workspace) (marks reaching : List Bool) : Type 0 where
  pub size : length reaching ≡ length (package_paths w)
  pub each : (i : ℕ) (p : List ℕ) → slice_get (package_paths w) i ≡ Some p → IsMarked reaching i ↔ ReachesMarked w marks p

-- Each package that imports a marked one is marked.
abbrev pub AreImportersMarked : Workspace → List Bool → Type 0
AreImportersMarked w marks = (i j : ℕ) (p q : List ℕ) → slice_get (package_paths w) i ≡ Some p → slice_get (package_paths w) j ≡ Some q → PackageImports w p q →
    IsMarked marks j → IsMarked marks i

-- All packages in whose closure `q` is were marked, itself among them, and no others.
pub record AddsClosuresWith (w : Workspace) (q : List ℕ) (old new : List Bool) : Type 0 where
  pub size : length new ≡ length old
  pub each : (i : ℕ) (p : List ℕ) → slice_get (package_paths w) i ≡ Some p → IsMarked new i ↔ (IsMarked old i ⊎ IsInClosure w p q)

-- The marked packages are exactly those in whose closure `q` is.
pub record MarksClosuresWith (w : Workspace) (q : List ℕ) (marks : List Bool) : Type 0 where
  pub size : length marks ≡ length (package_paths w)
  pub each : (i : ℕ) (p : List ℕ) → slice_get (package_paths w) i ≡ Some p → IsMarked marks i ↔ IsInClosure w p q
