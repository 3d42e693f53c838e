-- The answers to the goals of `plan::plan_paths`.
use Rattle.refactor_plan.proofs.MovePlanned.{target_refused, in_planned, movable}
use Rattle.refactor_preserve.specs.Planned.{change_in}
use Rattle.refactor_plan.proofs.move_plan.plan_paths.Goals as goal

pub returns-in-Err-clause-planned : goal.returns-in-Err-clause-planned
returns-in-Err-clause-planned c = target_refused c.args.snapshot.now c.args.from.now c.args.to.now c.requires.paths c.in-Err.refusal c.in-Err.ensures

pub plan_in-requires-clause-movable : goal.plan_in-requires-clause-movable
plan_in-requires-clause-movable c = movable c.args.snapshot.now c.args.from.now c.args.to.now c.requires.paths c.in-Ok.ensures

pub returns-in-Ok-clause-planned : goal.returns-in-Ok-clause-planned
returns-in-Ok-clause-planned c =
    in_planned c.args.snapshot.now c.args.from.now c.args.to.now c.requires.paths c.in-Ok.ensures (change_in c.plan_in.result)
    c.plan_in.ensures.planned

pub returns-in-Ok-clause-known : goal.returns-in-Ok-clause-known
returns-in-Ok-clause-known c = c.plan_in.ensures.known
