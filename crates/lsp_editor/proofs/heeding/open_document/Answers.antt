-- The answers to the goals of `heeding::open_document`.
use Rattle.std.proofs.Common.{None, refl, string_bytes}
use Rattle.std.proofs.lemmas.Result.{on_ok_weaker}
use Rattle.lsp_params.specs.Changed.{document_view}
use Rattle.lsp_editor.proofs.Heeded.{opened_in}
use Rattle.lsp_editor.proofs.heeding.open_document.Goals as goal

pub returns-in-Some : goal.returns-in-Some
returns-in-Some c =
    let named = rw c.in-Some.is at c.in_ok-name.ensures in
    on_ok_weaker c.open_named.result
    (opened_in (document_view c.args.opened) (string_bytes c.in-Some.name) c.as_str.result.now c.args.editor.now c.open_named.new.editor named
    c.as_str.ensures.value)
    c.open_named.ensures

pub returns-in-None : goal.returns-in-None
returns-in-None c =
    let named = rw c.in-None.is at c.in_ok-name.ensures in
    (None, named, refl)
