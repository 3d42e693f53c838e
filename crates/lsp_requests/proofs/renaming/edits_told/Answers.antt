-- The answers to the goals of `renaming::edits_told`.
use Rattle.std.proofs.Common.{◌∙◌, ap, subst}
use Rattle.std.specs.Prelude.{IfOk}
use Rattle.serde_json.specs.View.{view}
use Rattle.serde_json.specs.declared.value.Value.{Value}
use Rattle.lsp_edits.specs.Edits.{TellsEdit}
use Rattle.workspace_snapshot.specs.declared.change.Change.{Change}
use Rattle.lsp_requests.proofs.renaming.edits_told.Goals as goal

pub returns : goal.returns
returns c =
    let telling = c.args.sight.telling in
    subst (λ changes. IfOk c.workspace_edit.result (λ (value : Value). TellsEdit telling c.args.sight.view.now.snapshot.files changes (view value)))
    (c.changed-changes.ensures.changed ∙ ap (λ (change : Change). change.edits.changed) c.get.ensures)
    (subst (λ files. IfOk c.workspace_edit.result (λ (value : Value). TellsEdit telling files c.changed-changes.result.now (view value)))
    c.files.ensures c.workspace_edit.ensures)
