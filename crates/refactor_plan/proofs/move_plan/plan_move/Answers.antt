-- The answers to the goals of `plan::plan_move`.
use Rattle.std.proofs.Common.{ℕ, List, sym, subst}
use Rattle.base_files.specs.Path.{IsPath}
use Rattle.refactor_plan.specs.MovePlan.{PlansMove}
use Rattle.refactor_plan.proofs.MovePlanned.{source_refused}
use Rattle.refactor_preserve.specs.Planned.{change_in}
use Rattle.refactor_plan.proofs.move_plan.plan_move.Goals as goal

pub returns-in-Err-clause-planned : goal.returns-in-Err-clause-planned
returns-in-Err-clause-planned c = source_refused c.args.snapshot.now c.args.from.now c.args.to.now c.in-Err.refusal c.in-Err.ensures

pub plan_target-requires-clause-source : goal.plan_target-requires-clause-source
plan_target-requires-clause-source c = subst (λ (p : List ℕ). IsPath 1 p) (sym c.in-Ok.ensures.0) c.in-Ok.ensures.1

pub returns-in-Ok-clause-planned : goal.returns-in-Ok-clause-planned
returns-in-Ok-clause-planned c =
    subst (λ (p : List ℕ). PlansMove c.args.snapshot.now p c.args.to.now (change_in c.plan_target.result)) c.in-Ok.ensures.0
    c.plan_target.ensures.planned

pub returns-in-Ok-clause-known : goal.returns-in-Ok-clause-known
returns-in-Ok-clause-known c = c.plan_target.ensures.known
