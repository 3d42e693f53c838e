-- The invariants of the loops of `behind::first_outside`.
use Rattle.std.proofs.Common.{ℕ, ◌≡◌, ◌<◌}
use Rattle.std.specs.Prelude.{Some, slice_get}
use Rattle.base_files.specs.Path.{folder}
use Rattle.base_files.specs.declared.place.Place.{Place}
use Rattle.refactor_decide.proofs.behind.first_outside.Given as goal

abbrev pub invariant-loop-k : goal.invariant-loop-k
invariant-loop-k l = (j : ℕ) (other : Place) → j < l.k → slice_get l.places j ≡ Some other → folder other.path ≡ l.path
