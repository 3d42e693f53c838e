-- One change further.
use Rattle.std.proofs.Common.{sym}
use Rattle.base_edits.proofs.Steps.{order_at, there_at}
use Rattle.base_edits.proofs.Turned.{within_there}
use Rattle.base_edits.proofs.making.make_changes.Goals as goal

pub make_change-requires-clause-order : goal.make_change-requires-clause-order
make_change-requires-clause-order c = order_at c.args.changed.now c.loop-change.change-index c.change-item.result c.loop-change-test.true c.change-item.is
    c.requires.order

pub make_change-requires-clause-within : goal.make_change-requires-clause-within
make_change-requires-clause-within c =
    within_there c.args.files.now c.change-item.result c.in-Some.text.now (sym c.in-Some.ensures)
    (there_at c.args.files.now c.args.changed.now c.loop-change.change-index c.change-item.result c.loop-change-test.true c.change-item.is c.requires.there)
