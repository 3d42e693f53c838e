-- The answers to the goals of `taking_back::edits_to`.
use Rattle.std.proofs.Common.{◌∙◌, subst}
use Rattle.serde_json.specs.View.{view}
use Rattle.lsp_edits.specs.Edits.{TellsEdit}
use Rattle.lsp_edits.specs.Replaced.{replaced_texts}
use Rattle.lsp_requests.proofs.taking_back.edits_to.Goals as goal

pub returns : goal.returns
returns c =
    let edits = view c.in_ok-edits.edits in
    subst (λ files. TellsEdit c.args.sight.telling files (replaced_texts files c.args.after.now) edits) c.files-files.ensures
    (subst (λ changes. TellsEdit c.args.sight.telling c.files-files.result.now changes edits)
    (c.as_slice.ensures.value ∙ c.in_ok-changes.ensures) c.in_ok-edits.ensures)
