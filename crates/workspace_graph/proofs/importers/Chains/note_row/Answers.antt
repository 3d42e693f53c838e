-- One more package of the row.
use Rattle.std.proofs.Common.{◌<◌, ◌++◌, ◌∷◌, [], length, get_or, ◌∙◌, arith}
use Rattle.std.proofs.Math.ListN.{set}
use Rattle.workspace_graph.specs.Imports.{row_of}
use Rattle.workspace_graph.proofs.AddedImporters.{NotesRow-more}
use Rattle.workspace_graph.proofs.importers.Chains.note_row.Goals as goal

pub loop-number-preserved : goal.loop-number-preserved
loop-number-preserved c =
    let inv = c.loop-number.invariant in
    let row = c.args.row.now in
    let k = c.loop-number.number-index in
    let n = get_or row k 0 in
    record {
      size = c.in_ok-note.ensures.size ∙ inv.size;
      noted = λ lists are.
          let got = inv.noted lists are in
          let within : n < length got.0 = omega (arith, c.requires k 0 c.loop-number-test.true, inv.size, got.1.size) in (
            set got.0 n (row_of got.0 n ++ c.args.importer ∷ []),
            c.in_ok-note.ensures.noted got.0 got.1,
            NotesRow-more lists got.0 row k c.args.importer c.loop-number-test.true within got.2,
          );
    }
