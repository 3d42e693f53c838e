-- Where the whole workspace has no fault, what was planned there is the answer.
use Rattle.std.proofs.Common.{sym, ◌∙◌}
use Rattle.refactor_affected.proofs.Sound.{planned_alike, refused_alike}
use Rattle.refactor_affected.proofs.rename.plan_rename.Goals as goal

pub returns-in-Ok-clause-planned : goal.returns-in-Ok-clause-planned
returns-in-Ok-clause-planned c =
    planned_alike c.args.snapshot.now c.args.path.now c.args.offset c.args.name.now c.in-Ok.planned.change c.in-Ok.ensures.planned

pub returns-else-names_fault-clause-planned : goal.returns-else-names_fault-clause-planned
returns-else-names_fault-clause-planned c =
    refused_alike c.args.snapshot.now c.args.path.now c.args.offset c.args.name.now c.in-Err.refusal
    (sym c.names_fault.ensures ∙ c.if-names_fault.false) c.in-Err.ensures.planned
