-- None of the labels that were passed is of that visit and package.
use Rattle.std.proofs.Common.{◌≡◌, ℕ, ◌<◌, get_or}
use Rattle.build_unit.specs.declared.out.JobLabel.{JobLabel}
use Rattle.build_unit.proofs.out.Out.is_taken.Given as goal

abbrev pub invariant-loop-label : goal.invariant-loop-label
invariant-loop-label l = (k : ℕ) (x : JobLabel) → k < l.label-index → get_or l.label-items k x ≡ x → (x.visit ≡ l.visit) × (x.package ≡ l.path) → ⊥
