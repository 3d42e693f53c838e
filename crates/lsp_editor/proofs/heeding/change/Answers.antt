-- The answers to the goals of `heeding::change`.
use Rattle.std.proofs.Common.{None, refl, string_bytes}
use Rattle.std.proofs.lemmas.Result.{on_ok_weaker}
use Rattle.serde_json.specs.View.{view}
use Rattle.lsp_editor.proofs.Heeded.{changed_named}
use Rattle.lsp_editor.proofs.heeding.change.Goals as goal

pub returns-in-Some : goal.returns-in-Some
returns-in-Some c =
    let found = rw c.in-Some.is at c.in_ok-name.ensures in
    on_ok_weaker c.change_named.result
    (changed_named (view c.args.params.now) (string_bytes c.in-Some.name) c.as_str.result.now c.args.editor.now c.change_named.new.editor found
    c.as_str.ensures.value)
    c.change_named.ensures

pub returns-in-None : goal.returns-in-None
returns-in-None c =
    let found = rw c.in-None.is at c.in_ok-name.ensures in
    (None, found, refl)
