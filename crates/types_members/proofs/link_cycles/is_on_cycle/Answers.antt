-- The answers to the goals of `link_cycles::is_on_cycle`.
use Rattle.std.proofs.Common.{arith}
use Rattle.types_members.proofs.Marking.{cycle_found}
use Rattle.types_members.proofs.link_cycles.is_on_cycle.Goals as goal

pub returns : goal.returns
returns c =
    cycle_found c.args.links.now c.deref.result.now c.in_ok-begins.begins.items c.in_ok-marks.marks.items c.args.number c.index.result.now
    c.deref.ensures.value c.in_ok-begins.ensures.marked
    c.in_ok-marks.ensures.reached (omega (arith, c.in_ok-marks.ensures.size, c.requires.in_range)) c.index.ensures
