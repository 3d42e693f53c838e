-- The change is shown.
use Rattle.std.proofs.Common.{◌∙◌, ap}
use Rattle.workspace_snapshot.specs.declared.change.Change.{Change}
use Rattle.tool_commands.proofs.Tellings.{tells_shown}
use Rattle.tool_commands.proofs.opened.Opened.show.Goals as goal

pub returns : goal.returns
returns c =
    let after = c.files-after.ensures ∙ ap (λ (change : Change). change.files) c.get-change.ensures in
    let changes = c.changed-changes.ensures.changed ∙ ap (λ (change : Change). change.edits.changed) c.get-change.ensures in
    tells_shown c.args.self.now c.naming.result c.naming.ensures c.shown_outcome.result c.as_slice.result.now c.files-after.result.now
    c.changed-changes.result.now c.args.planned.now.change c.as_slice.ensures.value after changes c.shown_outcome.ensures
