-- The rows of the packages that were passed.
use Rattle.std.proofs.Common.{◌≡◌, take}
use Rattle.workspace_graph.specs.Imports.{LinkTable}
use Rattle.workspace_graph.specs.Chains.{AreChained}
use Rattle.workspace_graph.proofs.importers.Chains.rows.Given as goal

abbrev pub invariant-loop-number : goal.invariant-loop-number
invariant-loop-number l = (lists : LinkTable) → AreChained l.self lists → l.rows ≡ take l.number lists
