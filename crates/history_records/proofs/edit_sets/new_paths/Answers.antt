-- One change further.
use Rattle.history_records.proofs.Sets.{paths_more}
use Rattle.history_records.proofs.edit_sets.new_paths.Goals as goal

pub loop-change-preserved : goal.loop-change-preserved
loop-change-preserved c =
    paths_more c.args.changed.now c.loop-change.change-index c.change-item.result c.loop-change.paths.items c.add_new_path.new.paths.items
    c.loop-change-test.true c.change-item.is c.loop-change.invariant c.in_ok-add_new_path.ensures
