-- The answers to the goals of `move_plan::plan_sound`.
use Rattle.std.proofs.Common.{sym, subst}
use Rattle.base_files.specs.Workspace.{Workspace}
use Rattle.workspace_check.specs.Found.{KnowsVerdicts}
use Rattle.refactor_preserve.specs.Planned.{change_in}
use Rattle.refactor_plan.specs.MovePlan.{IsMovable}
use Rattle.refactor_plan.specs.MoveSteps.{PlansMoveTo}
use Rattle.refactor_plan.proofs.move_plan.plan_sound.Goals as goal

pub plan_found-requires-clause-proposed : goal.plan_found-requires-clause-proposed
plan_found-requires-clause-proposed c = record {
  same = c.requires.same;
  known = subst (λ (w : Workspace). KnowsVerdicts w c.args.known.now) (sym c.requires.same) c.requires.known;
}

pub plan_found-requires-clause-movable : goal.plan_found-requires-clause-movable
plan_found-requires-clause-movable c = subst (λ (w : Workspace). IsMovable w c.args.from.now c.args.to.now) (sym c.requires.same) c.requires.movable

pub returns-clause-planned : goal.returns-clause-planned
returns-clause-planned c =
    let snapshot = c.args.snapshot.now in
    subst (λ (w : Workspace). PlansMoveTo (record { number = snapshot.number; limits = snapshot.limits; files = w }) c.args.from.now c.args.to.now
    (change_in c.plan_found.result)) c.requires.same c.plan_found.ensures.planned

pub returns-clause-known : goal.returns-clause-known
returns-clause-known c = c.plan_found.ensures.known
