-- The answers to the goals of `decided::plan_decided`.
use Rattle.std.proofs.Common.{Option, inr, sym, subst}
use Rattle.std.specs.Prelude.{Err}
use Rattle.base_files.specs.declared.refusal.Refusal.{Refusal}
use Rattle.law_gained_names.proofs.Whole.{edits_exist}
use Rattle.refactor_coupled.specs.CoupledEdits.{AreCoupledEdits}
use Rattle.refactor_coupled.specs.declared.obstacle.Obstacle.{Obstacle}
use Rattle.refactor_plan.specs.Decided.{DecidesRename}
use Rattle.refactor_plan.specs.Proposals.{proposed_snapshot, proposed_verdicts}
use Rattle.refactor_plan.specs.Steps.{PlansDeclaration}
use Rattle.refactor_plan.proofs.DecidedRenames.{obstacle_refused}
use Rattle.refactor_plan.proofs.Homes.{proposed_set}
use Rattle.refactor_plan.proofs.decided.plan_decided.Goals as goal

pub plan_kept-requires-clause-decided : goal.plan_kept-requires-clause-decided
plan_kept-requires-clause-decided c =
    let p = c.args.proposal.now in
    let asked = c.args.renaming.now in
    subst (λ (o : Option Obstacle). DecidesRename p.workspace.now.graph (proposed_verdicts p) asked.declaration.now asked.set.now asked.name.now
    c.args.decision.is_hidden o) c.in-None.is c.requires.decided

pub returns-in-Some-clause-planned : goal.returns-in-Some-clause-planned
returns-in-Some-clause-planned c =
    let p = c.args.proposal.now in
    let w = p.workspace.now.graph in
    let known = proposed_verdicts p in
    let asked = c.args.renaming.now in
    let d = asked.declaration.now in
    let set = asked.set.now in
    let name = asked.name.now in
    let hidden = c.args.decision.is_hidden in
    let x = edits_exist w p.workspace.now.findings c.has_no_faults.ensures d set name in
    let are : AreCoupledEdits w known d set name x.changes = record {
      is_set = proposed_set p c.args.read.now c.requires.read asked c.requires.set;
      edits =
          x.edits;
    } in
    let decides = subst (λ (o : Option Obstacle). DecidesRename w known d set name hidden o) c.in-Some.is c.requires.decided in
    subst (λ (r : Refusal). PlansDeclaration (proposed_snapshot p) known d name (Err r)) (sym c.told.ensures) (inr (
      set,
      (
        x.changes,
        (are, (x.fit, obstacle_refused (proposed_snapshot p) known set x.changes hidden c.in-Some.obstacle (decides x.changes are x.fit))),
      ),
    ))
