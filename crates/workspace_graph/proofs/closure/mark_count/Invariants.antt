-- Those marked among the packages that were passed.
use Rattle.std.proofs.Common.{◌≡◌, take}
use Rattle.std.specs.List.{count_by}
use Rattle.workspace_graph.proofs.closure.mark_count.Given as goal

abbrev pub invariant-loop-number : goal.invariant-loop-number
invariant-loop-number l = l.count ≡ count_by (λ m. m) (take l.number l.marks)
