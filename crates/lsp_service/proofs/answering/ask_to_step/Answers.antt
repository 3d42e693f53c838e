-- The answers to the goals of `answering::ask_to_step`.
use Rattle.std.proofs.Common.{◌∙◌, ap, refl}
use Rattle.serde_json.specs.View.{view}
use Rattle.lsp_answers.specs.Edits.{apply_edit_params}
use Rattle.lsp_service.proofs.answering.ask_to_step.Goals as goal

pub returns-in-Ok : goal.returns-in-Ok
returns-in-Ok c = (
  c.in-Ok.params,
  c.in-Ok.ensures ∙ ap (λ label. apply_edit_params label (view c.args.edits)) c.step_label.ensures,
  refl,
)
