-- What was passed stands behind what is left.
use Rattle.std.proofs.Common.{◌≡◌, ℕ, List, ◌++◌, reverse}
use Rattle.workspace_graph.specs.Imports.{LinkTable, row_of}
use Rattle.workspace_graph.specs.Chains.{AreChained, IsChain}
use Rattle.workspace_graph.proofs.importers.Chains.fill_row.Given as goal

abbrev pub invariant-loop-left : goal.invariant-loop-left
invariant-loop-left l = (lists : LinkTable) → AreChained l.self lists → (rest : List ℕ) × IsChain l.self.noted.items l.left rest
    × (rest ++ reverse l.row.items ≡ row_of lists l.number)

abbrev pub decreases-loop-left : goal.decreases-loop-left
decreases-loop-left l = l.left
