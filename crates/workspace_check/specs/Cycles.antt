-- Cycle numbers: numbers of packages from which follows which imports lie on a cycle.
use Rattle.std.specs.Prelude.{ℕ, ◌≡◌, ◌<◌, ◌↔◌, List, Some, length, slice_get, slice_index_or}
use Rattle.base_files.specs.Workspace.{Workspace}
use Rattle.base_files.specs.Packages.{package_paths}
use Rattle.workspace_graph.specs.Packages.{PackageImports, IsInClosure}

-- `p` and `q` are one package, or each imports the other, directly or indirectly.
pub record AreOnOneCycle (w : Workspace) (p q : List ℕ) : Type 0 where
  pub there : IsInClosure w p q
  pub back : IsInClosure w q p

-- The package of this number is on one cycle with `p`.
pub record HasCycleNumber (w : Workspace) (p : List ℕ) (number : ℕ) : Type 0 where
  pub path : List ℕ
  pub has_path : slice_get (package_paths w) number ≡ Some path
  pub on_cycle : AreOnOneCycle w p path

-- Each package has the number of a package on one cycle with it, or its own.
pub record AreCycleNumbers (w : Workspace) (numbers : List ℕ) : Type 0 where
  pub size : length numbers ≡ length (package_paths w)
  pub each : (i : ℕ) (p : List ℕ) → slice_get (package_paths w) i ≡ Some p → HasCycleNumber w p (slice_index_or numbers i 0)

-- The cycle numbers of the packages `i` and `j` are equal, or that of `i` has the later place in the order.
abbrev pub ComesAfter : (places numbers : List ℕ) → (i j : ℕ) → Type 0
ComesAfter places numbers i j = (slice_index_or numbers j 0 ≡ slice_index_or numbers i 0 → ⊥) →
    slice_index_or places (slice_index_or numbers j 0) 0 < slice_index_or places (slice_index_or numbers i 0) 0

-- For each package that `p` (with number `i`) imports: it has the same cycle number, or `p`'s has the later place in the order.
abbrev pub ComesAfterImports : Workspace → (places numbers : List ℕ) → List ℕ → ℕ → Type 0
ComesAfterImports w places numbers p i = (j : ℕ) (q : List ℕ) → slice_get (package_paths w) j ≡ Some q → PackageImports w p q →
    ComesAfter places numbers i j

-- Each package has the cycle number of its import, or its own cycle number has the later place in the order.
abbrev pub ComeAfterImports : Workspace → (places numbers : List ℕ) → Type 0
ComeAfterImports w places numbers = (i : ℕ) (p : List ℕ) → slice_get (package_paths w) i ≡ Some p → ComesAfterImports w places numbers p i

-- For each package that has a cycle number, and each of its imports: the two numbers are equal just if the import leads back to the
-- package. An empty list satisfies this.
abbrev pub DecideCycles : Workspace → List ℕ → Type 0
DecideCycles w numbers = (i j : ℕ) (p q : List ℕ) → i < length numbers → slice_get (package_paths w) i ≡ Some p → slice_get (package_paths w) j ≡ Some q →
    PackageImports w p q → (slice_index_or numbers i 0 ≡ slice_index_or numbers j 0) ↔ IsInClosure w q p
