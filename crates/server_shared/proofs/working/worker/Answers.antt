-- One turn more, or none.
use Rattle.std.proofs.Common.{refl}
use Rattle.server_shared.specs.declared.work_turn.WorkTurn.TheVariants.{HandedIn, Lacking}
use Rattle.server_shared.proofs.ShiftLaws.{turned_none, turned_on, work_gained, works_on}
use Rattle.server_shared.proofs.working.worker.Goals as goal

pub loop-init : goal.loop-init
loop-init g c = record { here = c.requires.here; turned = turned_none g.L.Opening.most c.args.seat.now }

pub loop-preserved-in-Some-HandedIn : goal.loop-preserved-in-Some-HandedIn
loop-preserved-in-Some-HandedIn g c =
    let t = rw c.in-Some-HandedIn.field-0-is at (rw c.in-Some-HandedIn.is at c.turn_and_rest.ensures.turn) in
    record {
      here = c.turn_and_rest.ensures.here;
      turned = turned_on g.L.Opening.most c.args.seat.now c.loop.seat t.0 c.turn_and_rest.new.seat HandedIn c.loop.invariant.turned t.1 t.2;
    }

pub loop-preserved : goal.loop-preserved
loop-preserved g c =
    let t = rw c.in-Some-Lacking.field-0-is at (rw c.in-Some-Lacking.is at c.turn_and_rest.ensures.turn) in
    record {
      here = c.turn_and_rest.ensures.here;
      turned = turned_on g.L.Opening.most c.args.seat.now c.loop.seat t.0 c.turn_and_rest.new.seat Lacking c.loop.invariant.turned t.1 t.2;
    }

pub returns-in-None-turn_and_rest-clause-works : goal.returns-in-None-turn_and_rest-clause-works
returns-in-None-turn_and_rest-clause-works g c =
    works_on g.L.Opening.most c.args.seat.now c.loop.seat c.turn_and_rest.new.seat (rw c.in-None-turn_and_rest.is at c.turn_and_rest.ensures.turn)
    c.loop.invariant.turned

pub returns-in-None-turn_and_rest-clause-gains : goal.returns-in-None-turn_and_rest-clause-gains
returns-in-None-turn_and_rest-clause-gains g c =
    work_gained g.L.Opening.most c.args.seat.now c.loop.seat c.turn_and_rest.new.seat (rw c.in-None-turn_and_rest.is at c.turn_and_rest.ensures.turn)
    c.loop.invariant.turned

pub returns-in_default-clause-works : goal.returns-in_default-clause-works
returns-in_default-clause-works g c = works_on g.L.Opening.most c.args.seat.now c.loop.seat c.loop.seat refl c.loop.invariant.turned

pub returns-in_default-clause-gains : goal.returns-in_default-clause-gains
returns-in_default-clause-gains g c = work_gained g.L.Opening.most c.args.seat.now c.loop.seat c.loop.seat refl c.loop.invariant.turned
