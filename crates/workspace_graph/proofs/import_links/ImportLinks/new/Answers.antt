-- The importers are those of these imports.
use Rattle.workspace_graph.proofs.import_links.ImportLinks.new.Goals as goal

pub invariant_of-result : goal.invariant_of-result
invariant_of-result c = record {
  linked = c.requires;
  importers = c.in_ok-importers.ensures;
}
