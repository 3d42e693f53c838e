-- The invariants of the loops of `cycles::are_behind_imports`.
use Rattle.std.proofs.Common.{ℕ, ◌≡◌, ◌<◌, List}
use Rattle.std.specs.Prelude.{Some, slice_get}
use Rattle.base_files.specs.Packages.{package_paths}
use Rattle.workspace_check.specs.Cycles.{ComesAfterImports}
use Rattle.workspace_check.proofs.cycles.are_behind_imports.Given as goal

abbrev pub invariant-loop-number : goal.invariant-loop-number
invariant-loop-number l = (i : ℕ) (p : List ℕ) → i < l.number → slice_get (package_paths l.graph) i ≡ Some p →
    ComesAfterImports l.graph l.places l.numbers p i
