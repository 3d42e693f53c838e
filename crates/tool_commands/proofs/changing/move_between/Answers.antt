-- The move is shown or made.
use Rattle.tool_commands.proofs.Tellings.{tells_moved}
use Rattle.tool_commands.proofs.changing.move_between.Goals as goal

pub returns-in-Ok : goal.returns-in-Ok
returns-in-Ok g c =
    tells_moved c.args.opened.now c.show_or_write.result c.args.options.now.from.now c.args.options.now.to.now c.args.paths.0.now
    c.args.paths.1.now c.args.options.now.dry_run c.in-Ok.planned.change c.requires.from c.requires.to c.in-Ok.ensures
    c.show_or_write.ensures
