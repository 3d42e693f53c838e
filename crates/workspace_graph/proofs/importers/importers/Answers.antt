-- One more row.
use Rattle.std.proofs.Common.{ℕ, List, subst, ◌∙◌}
use Rattle.workspace_graph.specs.Imports.{AddsImporter}
use Rattle.workspace_graph.proofs.AddedImporters.{HoldImporters-more}
use Rattle.workspace_graph.proofs.importers.importers.Goals as goal

pub loop-importer-preserved : goal.loop-importer-preserved
loop-importer-preserved c =
    let g = c.args.imports.now in
    let n = c.loop-importer.importer in
    let inv = c.loop-importer.invariant in
    let got = inv.held in
    let noted = c.in_ok-note_row.ensures.noted got.0 got.1 in
    record {
      size = c.in_ok-note_row.ensures.size ∙ inv.size;
      held = (
        noted.0,
        noted.1,
        HoldImporters-more g got.0 noted.0 n got.2 (subst (λ (row : List ℕ). AddsImporter got.0 row n noted.0) c.row.ensures noted.2),
      );
    }
