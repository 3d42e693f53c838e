-- The paths of the files that are written are told.
use Rattle.std.proofs.Common.{◌∙◌, ap}
use Rattle.workspace_snapshot.specs.declared.change.Change.{Change}
use Rattle.tool_commands.proofs.Tellings.{tells_written}
use Rattle.tool_commands.proofs.opened.Opened.write.Goals as goal

pub returns : goal.returns
returns g c =
    let after = c.files-after.ensures ∙ ap (λ (change : Change). change.files) c.get-change.ensures in
    let changes = c.changed.ensures.changed ∙ ap (λ (change : Change). change.edits.changed) c.get-change.ensures in
    tells_written c.args.self.now c.naming.result c.naming.ensures c.written.result c.files-after.result.now c.changed.result.now
    c.args.planned.now.change c.in_ok-rewrites.rewrites.items c.as_slice-4.result.now after changes c.as_slice-4.ensures.value
    c.in_ok-rewrites.ensures c.written.ensures
