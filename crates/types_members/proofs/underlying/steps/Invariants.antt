-- The invariants of the loops of `underlying::steps`.
use Rattle.std.proofs.Common.{ℕ, ◌≡◌, length}
use Rattle.std.specs.Prelude.{Some, slice_get}
use Rattle.types_members.specs.declared.underlying.NameStep.{NameStep}
use Rattle.types_declared.specs.PackageView.{package_of}
use Rattle.types_members.specs.Steps.{IsStep}
use Rattle.types_members.proofs.underlying.steps.Given as goal

abbrev pub invariant-loop-rank : goal.invariant-loop-rank
invariant-loop-rank l = record {
  all : length l.steps.items ≡ l.rank;
  each : (rank : ℕ) (s : NameStep) → slice_get l.steps.items rank ≡ Some s → IsStep (package_of l.pkg) rank s;
}
