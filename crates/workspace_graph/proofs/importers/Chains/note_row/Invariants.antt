-- The importer is noted at the packages that were passed.
use Rattle.std.proofs.Common.{◌≡◌, length, take}
use Rattle.workspace_graph.specs.Imports.{LinkTable}
use Rattle.workspace_graph.specs.Chains.{AreChained, AddsChained}
use Rattle.workspace_graph.proofs.importers.Chains.note_row.Given as goal

abbrev pub invariant-loop-number : goal.invariant-loop-number
invariant-loop-number l = record {
  size : length l.self.latest.items ≡ length l.initial.self.latest.items;
  noted : (lists : LinkTable) → AreChained l.initial.self lists → AddsChained lists (take l.number-index l.row) l.importer l.self;
}
