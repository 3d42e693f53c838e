-- The answers to the goals of `noting::note_params`.
use Rattle.serde_json.specs.View.{view}
use Rattle.lsp_editor.proofs.Noted.{noted_alone, noted_folder}
use Rattle.lsp_editor.proofs.noting.note_params.Goals as goal

pub returns-in-Some : goal.returns-in-Some
returns-in-Some c =
    let named = rw c.in-Some.is at c.in_ok-root.ensures in
    noted_folder (view c.args.params.now) c.in-Some.root c.abilities_in-editor.result c.args.editor.now c.abilities_in-editor.ensures named

pub returns-in-None : goal.returns-in-None
returns-in-None c =
    let named = rw c.in-None.is at c.in_ok-root.ensures in
    noted_alone (view c.args.params.now) c.abilities_in-editor.result c.args.editor.now c.abilities_in-editor.ensures named
