-- The answers to the goals of `publications::keep`.
use Rattle.std.proofs.Common.{refl, string_bytes}
use Rattle.lsp_editor.proofs.Keeping.{kept_one}
use Rattle.lsp_editor.proofs.publications.keep.Goals as goal

pub returns-in-Ok : goal.returns-in-Ok
returns-in-Ok c = (
  refl,
  kept_one (string_bytes c.args.name) c.args.editor.now.published c.insert.new.self c.args.published c.in-Ok.ensures.updates,
)
