-- Where the whole workspace has no fault, what was planned there is the answer.
use Rattle.std.proofs.Common.{sym, ◌∙◌}
use Rattle.refactor_affected.proofs.MovePlanned.{move_alike, move_alike_refused}
use Rattle.refactor_affected.proofs.moving.plan_move.Goals as goal

pub returns-in-Ok-clause-planned : goal.returns-in-Ok-clause-planned
returns-in-Ok-clause-planned c = move_alike c.args.snapshot.now c.args.from.now c.args.to.now c.in-Ok.planned.change c.in-Ok.ensures.planned

pub returns-else-names_fault-clause-planned : goal.returns-else-names_fault-clause-planned
returns-else-names_fault-clause-planned c =
    move_alike_refused c.args.snapshot.now c.args.from.now c.args.to.now c.in-Err.refusal
    (sym c.names_fault.ensures ∙ c.if-names_fault.false) c.in-Err.ensures.planned
