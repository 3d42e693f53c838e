-- The invariants of the loops of `reuse::have_same_paths`.
use Rattle.std.proofs.Common.{◌≡◌, ℕ, ◌<◌, slice_get}
use Rattle.base_files.specs.Packages.{package_paths}
use Rattle.workspace_check.proofs.reuse.have_same_paths.Given as goal

abbrev pub invariant-loop-number : goal.invariant-loop-number
invariant-loop-number l = (k : ℕ) → k < l.number → slice_get (package_paths l.before) k ≡ slice_get (package_paths l.after) k
