-- The Job that comes back is the one that was delivered.
use Rattle.std.proofs.Common.{inl, inr, refl, subst}
use Rattle.build_unit.specs.declared.job.JobRecord.{JobRecord}
use Rattle.history_machine.specs.declared.event.Event.TheVariants.{GiveBack}
use Rattle.server_shared.specs.Working.{CallsEvent}
use Rattle.server_shared.proofs.working.deliver.Goals as goal

pub returns-in-Ok : goal.returns-in-Ok
returns-in-Ok g c =
    let sent = c.deliver.ensures in
    let taken = rw c.in-Ok.is at sent.2 in
    inl (refl, (c.args.built, c.requires.built, (sent.0, taken, sent.1)))

pub returns-in-Err : goal.returns-in-Err
returns-in-Err g c =
    let sent = c.deliver.ensures in
    let returned = rw c.in-Err.is at sent.2 in
    let given = subst (λ (job : JobRecord). CallsEvent g.C.Caller.steps c.deliver.new.caller (GiveBack job) c.give_back.new.caller) returned.1
    c.give_back.ensures in
    inr (refl, inr (c.args.built, c.requires.built, (sent.0, c.deliver.new.caller, returned.0, sent.1, given)))
