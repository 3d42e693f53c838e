-- The invariants of the loops of `gathered::gather`.
use Rattle.std.proofs.Common.{ℕ, ◌<◌, ◌≤◌, length}
use Rattle.base_files.specs.Packages.{package_paths}
use Rattle.workspace_check.specs.Steps.{AreGathered, IsGathered}
use Rattle.workspace_check.proofs.Rising.{StandBefore}
use Rattle.workspace_check.proofs.gathered.gather.Given as goal

abbrev pub invariant-loop-number : goal.invariant-loop-number
invariant-loop-number l = record {
  right : AreGathered l.graph (length (package_paths l.graph)) l.taken.all;
  unknown : (n : ℕ) → l.number ≤ n → IsGathered l.taken.all.findings.items n → ⊥;
  before : StandBefore l.graph (λ n. n < l.number) l.taken.all.export_table;
}
