-- The invariants of the loops of `reuse::have_same_links`.
use Rattle.std.proofs.Common.{◌≡◌, ℕ, ◌<◌}
use Rattle.workspace_graph.specs.Imports.{row_of}
use Rattle.workspace_check.proofs.reuse.have_same_links.Given as goal

abbrev pub invariant-loop-number : goal.invariant-loop-number
invariant-loop-number l = (k : ℕ) → k < l.number → row_of l.before k ≡ row_of l.after k
