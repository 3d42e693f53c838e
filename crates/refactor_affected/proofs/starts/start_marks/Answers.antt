-- One package more is passed.
use Rattle.refactor_affected.specs.Starts.{BeginsMove}
use Rattle.refactor_affected.proofs.Starting.{first_more, first_none}
use Rattle.refactor_affected.proofs.starts.start_marks.Goals as goal

pub loop-number-init : goal.loop-number-init
loop-number-init c = first_none c.args.graph.now (BeginsMove c.args.graph.now c.args.moved.from.now c.args.moved.to.now) c.new-marks.result.items
    c.new-marks.ensures.items

pub loop-number-preserved : goal.loop-number-preserved
loop-number-preserved c =
    let P = BeginsMove c.args.graph.now c.args.moved.from.now c.args.moved.to.now in
    first_more c.args.graph.now P c.loop-number.number c.loop-number.marks.items c.push.new.self.items c.in_ok-begins.field-0 c.in_ok-push.ensures.items
    c.loop-number.invariant c.in_ok-begins.ensures
