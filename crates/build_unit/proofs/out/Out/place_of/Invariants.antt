-- None of the labels that were passed is that of the Job.
use Rattle.std.proofs.Common.{◌≡◌, ℕ, ◌<◌, get_or}
use Rattle.build_unit.specs.Jobs.{label_of}
use Rattle.build_unit.proofs.out.Out.place_of.Given as goal

abbrev pub invariant-loop-place : goal.invariant-loop-place
invariant-loop-place l = (k : ℕ) → k < l.place → get_or l.self-inside.labels.items k (label_of l.job) ≡ label_of l.job → ⊥
