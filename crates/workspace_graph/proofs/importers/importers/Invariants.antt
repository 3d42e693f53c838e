-- The importers among the packages that were passed.
use Rattle.std.proofs.Common.{◌≡◌, length}
use Rattle.workspace_graph.specs.Chains.{AreChained}
use Rattle.workspace_graph.specs.Imports.{AreImporterRows, LinkTable}
use Rattle.workspace_graph.proofs.importers.importers.Given as goal

abbrev pub invariant-loop-importer : goal.invariant-loop-importer
invariant-loop-importer l = record {
  size : length l.chains.latest.items ≡ length l.imports;
  held : (lists : LinkTable) × AreChained l.chains lists × AreImporterRows l.imports l.importer lists;
}
