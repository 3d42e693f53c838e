-- The answers to the goals of `heeding::change_to`.
use Rattle.std.proofs.Common.{List, Option, Some, refl, subst, w64}
use Rattle.std.proofs.lemmas.Int.{to_z-of_z}
use Rattle.std.proofs.lemmas.Result.{on_ok_weaker}
use Rattle.serde_json.specs.View.{view}
use Rattle.lsp_params.specs.Changed.{ChangeView, changes_in}
use Rattle.lsp_editor.specs.Heeding.{ChangesTo}
use Rattle.lsp_editor.proofs.Heeded.{changed_to}
use Rattle.lsp_editor.proofs.heeding.change_to.Goals as goal

pub returns-in-Some : goal.returns-in-Some
returns-in-Some c =
    let listed = rw c.in-Some.is at c.in_ok-changes.ensures in
    on_ok_weaker c.change.result
    (changed_to c.args.name.now c.args.version (changes_in (view c.args.params.now)) c.in-Some.changes.items c.as_slice.result.now c.args.editor.now
    c.change.new.self listed c.as_slice.ensures.value)
    (rw (to_z-of_z w64 c.args.version c.ranges.version) at c.change.ensures.changed)

pub returns-in-None : goal.returns-in-None
returns-in-None c =
    let listed = rw c.in-None.is at c.in_ok-changes.ensures in
    subst (λ (v : Option (List ChangeView)). ChangesTo c.args.name.now (Some c.args.version) v c.args.editor.now c.args.editor.now) listed refl
