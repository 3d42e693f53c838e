-- The answers to the goals of `heeding::open_named`.
use Rattle.std.proofs.Common.{true, false, refl}
use Rattle.std.proofs.lemmas.Result.{on_ok_weaker}
use Rattle.lsp_params.specs.Changed.{document_view}
use Rattle.lsp_editor.proofs.Heeded.{opened_named}
use Rattle.lsp_editor.proofs.heeding.open_named.Goals as goal

pub returns-then-is_taken : goal.returns-then-is_taken
returns-then-is_taken c =
    on_ok_weaker c.open_taken.result
    (opened_named c.args.name.now (document_view c.args.opened) c.is_taken.result true c.args.editor.now c.open_taken.new.editor c.is_taken.ensures
    c.if-is_taken.true)
    c.open_taken.ensures

pub returns-else-is_taken : goal.returns-else-is_taken
returns-else-is_taken c =
    opened_named c.args.name.now (document_view c.args.opened) c.is_taken.result false c.args.editor.now c.args.editor.now c.is_taken.ensures
    c.if-is_taken.false refl
