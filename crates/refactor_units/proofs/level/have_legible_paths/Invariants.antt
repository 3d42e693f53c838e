-- The paths of the packages that were passed are legible.
use Rattle.std.proofs.Common.{ℕ, ◌<◌}
use Rattle.refactor_units.specs.LevelNames.{HasLegiblePath}
use Rattle.refactor_units.proofs.level.have_legible_paths.Given as goal

abbrev pub invariant-loop-number : goal.invariant-loop-number
invariant-loop-number l = (i : ℕ) → i < l.number → HasLegiblePath l.files i
