-- The inputs of a unit: the texts of its package's closure.
use Rattle.std.specs.Prelude.{◌≡◌, ℕ, Bool, true, false, List, Option, None, Some, slice_get}
use Rattle.std.specs.List.{Contains, list_any}
use Rattle.std.specs.List.Sorted.{IsStrictlyIncreasing}
use Rattle.std.specs.FinMap as files
use Rattle.base_files.specs.Workspace.{Workspace}
use Rattle.base_files.specs.Packages.{is_go, is_of_package, package_paths}
use Rattle.workspace_graph.specs.Graphs.{ListsPackages}
use Rattle.workspace_graph.specs.Packages.{IsInClosure, AreClosureTexts}
use Rattle.workspace_check.specs.Closures.{HasSameClosure}

-- p is a package of w, and `inputs` has exactly the texts of its closure, as a workspace of its own.
pub record AreInputs (w : Workspace) (p : List ℕ) (inputs : Workspace) : Type 0 where
  pub is_package : Contains (package_paths w) p
  pub texts : AreClosureTexts w p (files.entries inputs)

-- Whether the path is that of a Go file directly in the folder. It is false where there is no folder.
abbrev pub is_file_of : Option (List ℕ) → List ℕ → Bool
is_file_of None path = false
is_file_of (Some p) path = is_of_package p path

-- Whether the path is that of a Go file of one of the packages of w with these numbers.
abbrev pub is_file_of_any : Workspace → List ℕ → List ℕ → Bool
is_file_of_any w numbers path = list_any (λ n. is_file_of (slice_get (package_paths w) n) path) numbers

-- The Go files of the packages of w with these numbers, as a workspace of their own.
unfoldable pub part_of : Workspace → List ℕ → Workspace
part_of w numbers = files.retain_keys w (is_file_of_any w numbers)

-- `numbers` are those of exactly the packages in the closure of the package `number`, in order.
pub record IsClosureAt (w : Workspace) (number : ℕ) (numbers : List ℕ) : Type 0 where
  pub path : List ℕ
  pub has_path : slice_get (package_paths w) number ≡ Some path
  pub holds : ListsPackages w (IsInClosure w path) numbers
  pub rising : IsStrictlyIncreasing numbers

-- Each file of the workspace is a Go file.
abbrev pub AreGoFiles : Workspace → Type 0
AreGoFiles w = (e : List ℕ × List ℕ) → Contains (files.entries w) e → is_go e.0 ≡ true

-- Each package of w has the closure, with the texts, that it has in v.
abbrev pub HasClosuresOf : Workspace → Workspace → Type 0
HasClosuresOf v w = (q : List ℕ) → Contains (package_paths w) q → HasSameClosure v w q
