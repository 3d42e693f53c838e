-- The answers to the goals of `heeding::close`.
use Rattle.std.proofs.Common.{None, refl, string_bytes}
use Rattle.serde_json.specs.View.{view}
use Rattle.lsp_editor.proofs.Heeded.{closed_named}
use Rattle.lsp_editor.proofs.heeding.close.Goals as goal

pub returns-in-Some : goal.returns-in-Some
returns-in-Some c =
    let found = rw c.in-Some.is at c.in_ok-name.ensures in
    closed_named (view c.args.params.now) (string_bytes c.in-Some.name) c.as_str.result.now c.args.editor.now c.close_named.new.editor found
    c.as_str.ensures.value c.close_named.ensures

pub returns-in-None : goal.returns-in-None
returns-in-None c =
    let found = rw c.in-None.is at c.in_ok-name.ensures in
    (None, found, refl)
