-- The answers to the goals of `plan::plan_target`.
use Rattle.std.proofs.Common.{ℕ, List, sym, subst}
use Rattle.base_files.specs.Path.{IsPath}
use Rattle.refactor_plan.specs.MovePlan.{PlansMove}
use Rattle.refactor_plan.proofs.MovePlanned.{target_no_path}
use Rattle.refactor_preserve.specs.Planned.{change_in}
use Rattle.refactor_plan.proofs.move_plan.plan_target.Goals as goal

pub returns-in-Err-clause-planned : goal.returns-in-Err-clause-planned
returns-in-Err-clause-planned c = target_no_path c.args.snapshot.now c.args.from.now c.args.to.now c.in-Err.refusal c.in-Err.ensures

pub plan_paths-requires-clause-paths : goal.plan_paths-requires-clause-paths
plan_paths-requires-clause-paths c = record {
  source = c.requires.source;
  target =
      subst (λ (p : List ℕ). IsPath 1 p) (sym c.in-Ok.ensures.0) c.in-Ok.ensures.1;
}

pub returns-in-Ok-clause-planned : goal.returns-in-Ok-clause-planned
returns-in-Ok-clause-planned c =
    subst (λ (p : List ℕ). PlansMove c.args.snapshot.now c.args.from.now p (change_in c.plan_paths.result)) c.in-Ok.ensures.0
    c.plan_paths.ensures.planned

pub returns-in-Ok-clause-known : goal.returns-in-Ok-clause-known
returns-in-Ok-clause-known c = c.plan_paths.ensures.known
