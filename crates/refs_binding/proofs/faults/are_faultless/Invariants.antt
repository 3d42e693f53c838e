-- The invariants of the loops of `faults::are_faultless`.
use Rattle.std.proofs.Common.{ℕ, ◌≡◌, ◌<◌, []}
use Rattle.std.specs.Prelude.{Some, slice_get}
use Rattle.workspace_check.specs.declared.finding.Finding.{Finding}
use Rattle.refs_binding.proofs.faults.are_faultless.Given as goal

abbrev pub invariant-loop-finding : goal.invariant-loop-finding
invariant-loop-finding l = (n : ℕ) (f : Finding) → n < l.finding-index → slice_get l.packages n ≡ Some f → f.faults.items ≡ []
