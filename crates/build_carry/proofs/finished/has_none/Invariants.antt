-- No package that was passed is finished.
use Rattle.std.proofs.Common.{ℕ, ◌≡◌, ◌<◌, Some}
use Rattle.std.specs.Prelude.{slice_get}
use Rattle.build_unit.specs.declared.unit.Unit.{Unit as PackageUnit}
use Rattle.build_carry.proofs.finished.has_none.Given as goal

abbrev pub invariant-loop-number : goal.invariant-loop-number
invariant-loop-number l = (i : ℕ) → i < l.number → (unit : PackageUnit) → slice_get l.units i ≡ Some (Some unit) → ⊥
