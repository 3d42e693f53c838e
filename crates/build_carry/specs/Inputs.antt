-- The inputs of a package, as the packages of its closure.
use Rattle.std.specs.Prelude.{◌≡◌, ℕ, List, length, Some, slice_get}
use Rattle.base_files.specs.Packages.{package_paths}
use Rattle.base_files.specs.Workspace.{Workspace}
use Rattle.workspace_graph.specs.FaultyFiles.{FaultyParts}
use Rattle.build_carry.specs.Changes.{HasSameFiles}

-- The path and the text of a file without a tree.
abbrev pub faulty_file : FaultyParts → List ℕ × List ℕ
faulty_file f = (f.path, f.text)

-- The packages of v are the packages of w with these numbers, in this order. Each has the same files in v and w.
pub record AreNumberedPackages (w : Workspace) (numbers : List ℕ) (v : Workspace) : Type 0 where
  pub size : length (package_paths v) ≡ length numbers
  pub each : (i n : ℕ) (p q : List ℕ) → slice_get numbers i ≡ Some n → slice_get (package_paths w) n ≡ Some p → slice_get (package_paths v) i ≡ Some q →
      (q ≡ p) × HasSameFiles w v p
