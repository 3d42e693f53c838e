-- A Job was taken and handed in, or there was none.
use Rattle.std.proofs.Common.{inr, subst, sym}
use Rattle.build_unit.specs.declared.job.JobRecord.{JobRecord}
use Rattle.server_shared.proofs.working.turn.Goals as goal

-- the caller knows what the Job that it took brings
pub hand_in-requires : goal.hand_in-requires
hand_in-requires g c =
    subst (λ (job : JobRecord). g.C.Caller.brings c.take.new.self job) (sym c.new.ensures)
    (rw c.in-Some-Ok.field-0-is at (rw c.in-Some-Ok.is at c.take.ensures.brings))

pub returns-in-None : goal.returns-in-None
returns-in-None g c = rw c.in-None.is at c.take.ensures.took

pub returns-in-Some-Ok : goal.returns-in-Some-Ok
returns-in-Some-Ok g c =
    let took = rw c.in-Some-Ok.field-0-is at (rw c.in-Some-Ok.is at c.take.ensures.took) in
    inr (c.in-Some-Ok.job, c.take.new.self, took.0, rw c.new.ensures at c.hand_in.ensures)
