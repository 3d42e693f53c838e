-- The numbers that were passed were added.
use Rattle.std.proofs.Common.{◌≡◌, ◌++◌, take}
use Rattle.workspace_graph.proofs.link_rows.push_all.Given as goal

abbrev pub invariant-loop-number : goal.invariant-loop-number
invariant-loop-number l = l.numbers.items ≡ l.initial.numbers.items ++ take l.number-index l.row
