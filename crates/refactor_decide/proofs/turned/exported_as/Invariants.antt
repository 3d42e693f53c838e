-- The invariants of the loops of `turned::exported_as`.
use Rattle.std.proofs.Common.{ℕ, ◌≡◌, ◌<◌}
use Rattle.types_check.specs.Exports.{DoesExport}
use Rattle.types_declared.specs.PackageView.{package_of}
use Rattle.refactor_decide.proofs.turned.exported_as.Given as goal

abbrev pub invariant-loop-d : goal.invariant-loop-d
invariant-loop-d l = (e : ℕ) → e < l.d → DoesExport (package_of l.unit) e → (package_of l.unit).names e ≡ l.name → ⊥
