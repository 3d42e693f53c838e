-- The answers to the goals of `link_cycles::cycles`.
use Rattle.types_members.specs.Cycles.{IsOnCycle}
use Rattle.types_members.proofs.Marking.{marks_none, marks_next}
use Rattle.types_members.proofs.link_cycles.cycles.Goals as goal

pub loop-number-init : goal.loop-number-init
loop-number-init c = marks_none (IsOnCycle c.args.links.now) c.new-marks.result.items c.new-marks.ensures.items

pub loop-number-preserved : goal.loop-number-preserved
loop-number-preserved c =
    marks_next (IsOnCycle c.args.links.now) c.loop-number.marks.items c.push.new.self.items c.loop-number.number _ c.in_ok-push.ensures.items
    c.in_ok-leads_back.ensures c.loop-number.invariant
