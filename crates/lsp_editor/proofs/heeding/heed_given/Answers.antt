-- The answers to the goals of `heeding::heed_given`.
use Rattle.std.proofs.Common.{◌∙◌, ap, subst}
use Rattle.serde_json.specs.View.{view}
use Rattle.lsp_editor.specs.Heeding.{HeedsNotice, is_known}
use Rattle.lsp_editor.specs.declared.heeding.Notice.{Notice}
use Rattle.lsp_editor.proofs.heeding.heed_given.Goals as goal

pub returns : goal.returns
returns c = (
  c.is_known.ensures ∙ ap is_known c.notice_of-notice.ensures,
  subst (λ (n : Notice). HeedsNotice n (view c.args.params.now) c.args.editor.now c.heed_with.new.editor) c.notice_of-notice.ensures
      c.in_ok-heed_with.ensures,
)
