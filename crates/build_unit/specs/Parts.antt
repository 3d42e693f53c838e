-- Some packages of a workspace, by their numbers, as a workspace of their own.
use Rattle.std.specs.Prelude.{◌≡◌, ℕ, true, List, Some, slice_get}
use Rattle.std.specs.FinMap as files
use Rattle.std.specs.List.{Contains}
use Rattle.base_files.specs.Path.{folder}
use Rattle.base_files.specs.Packages.{is_go, package_paths, package_files}
use Rattle.base_files.specs.Workspace.{Workspace}

-- p is a package of w with one of these numbers.
pub record HasNumberIn (w : Workspace) (numbers : List ℕ) (p : List ℕ) : Type 0 where
  pub number : ℕ
  pub among : Contains numbers number
  pub has_path : slice_get (package_paths w) number ≡ Some p

-- The Go files of `part` are exactly those of the packages of w with these numbers.
pub record HasFilesOf (w : Workspace) (numbers : List ℕ) (part : Workspace) : Type 0 where
  pub same : (path : List ℕ) → is_go path ≡ true → HasNumberIn w numbers (folder path) → files.get part path ≡ files.get w path
  pub others : (p : List ℕ) (e : List ℕ × List ℕ) → Contains (package_files part p) e → HasNumberIn w numbers p
