-- The answers to the goals of `telling::push_change`.
use Rattle.tool_told.proofs.Told.{tells_step}
use Rattle.tool_told.proofs.telling.push_change.Goals as goal

pub loop-change-preserved : goal.loop-change-preserved
loop-change-preserved c =
    tells_step c.args.naming c.args.after.now c.args.changes.now c.loop-change.change-index c.change-item.result c.args.text.now.items
    c.loop-change.text.items c.push_file_change.new.text.items c.loop-change-test.true c.change-item.is c.loop-change.invariant
    c.in_ok-push_file_change.ensures
