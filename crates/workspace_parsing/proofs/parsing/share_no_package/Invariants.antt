-- No package that was passed has the path of a package below.
use Rattle.std.proofs.Common.{ℕ, ◌≡◌, ◌<◌, List}
use Rattle.std.specs.Prelude.{Some, Contains, slice_get}
use Rattle.base_files.specs.Packages.{package_paths}
use Rattle.workspace_parsing.proofs.parsing.share_no_package.Given as goal

abbrev pub invariant-loop-number : goal.invariant-loop-number
invariant-loop-number l = (i : ℕ) (p : List ℕ) → i < l.number → slice_get (package_paths l.above) i ≡ Some p → Contains (package_paths l.below) p → ⊥
