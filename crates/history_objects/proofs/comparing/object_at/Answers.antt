-- The package's number decides.
use Rattle.history_objects.proofs.OneObject.{none_at, object_there, fault_there}
use Rattle.history_objects.proofs.comparing.object_at.Goals as goal

pub returns-in_default : goal.returns-in_default
returns-in_default c = none_at c.args.finished.now c.args.number c.in_default.ensures

pub returns-in-Ok : goal.returns-in-Ok
returns-in-Ok c = object_there c.args.finished.now c.args.number c.in-Some.unit.now c.in-Some.ensures c.in-Ok.text.now c.in-Ok.ensures

pub returns-in-Err : goal.returns-in-Err
returns-in-Err c = fault_there c.args.finished.now c.args.number c.in-Some.unit.now c.in-Some.ensures c.in-Err.field-0.now c.in-Err.ensures
