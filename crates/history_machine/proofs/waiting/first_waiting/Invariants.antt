-- None of the packages before this one waits.
use Rattle.std.proofs.Common.{◌≡◌, ℕ, ◌<◌, List, Some, slice_get}
use Rattle.base_files.specs.Packages.{package_paths}
use Rattle.history_machine.specs.Waiting.{IsWaiting}
use Rattle.history_machine.proofs.waiting.first_waiting.Given as goal

abbrev pub invariant-loop-number : goal.invariant-loop-number
invariant-loop-number l = (i : ℕ) (q : List ℕ) → i < l.number → slice_get (package_paths l.state.files) i ≡ Some q → IsWaiting l.state l.out l.visit q → ⊥
