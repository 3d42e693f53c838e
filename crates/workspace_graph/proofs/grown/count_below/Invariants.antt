-- The numbers that were passed are below the bound.
use Rattle.std.proofs.Common.{ℕ, ◌<◌, get_or}
use Rattle.workspace_graph.proofs.grown.count_below.Given as goal

abbrev pub invariant-loop-index : goal.invariant-loop-index
invariant-loop-index l = (k : ℕ) → k < l.index → get_or l.row k 0 < l.bound
