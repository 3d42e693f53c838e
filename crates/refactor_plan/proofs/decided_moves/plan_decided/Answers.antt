-- The answers to the goals of `decided_moves::plan_decided`.
use Rattle.std.proofs.Common.{Option, sym, subst}
use Rattle.std.specs.Prelude.{Err}
use Rattle.base_files.specs.declared.refusal.Refusal.{Refusal}
use Rattle.workspace_snapshot.specs.declared.change.ChangeKind.TheVariants.{Move}
use Rattle.refactor_conflict.specs.declared.conflict.Conflict.{Conflict}
use Rattle.refactor_follow.specs.MoveConflicts.{TellsMoveConflict}
use Rattle.refactor_plan.specs.Proposals.{PlansChange, proposed_snapshot, proposed_verdicts}
use Rattle.refactor_plan.proofs.DecidedMoves.{conflict_refused}
use Rattle.refactor_plan.proofs.decided_moves.plan_decided.Goals as goal

pub plan_kept-requires-clause-kept : goal.plan_kept-requires-clause-kept
plan_kept-requires-clause-kept c =
    let p = c.args.proposal.now in
    let to = c.args.to.now in
    let m = c.requires.planned in
    let tells = subst (λ (o : Option Conflict). TellsMoveConflict p.workspace.now.graph (proposed_verdicts p) p.path.now to o) c.in-None.is
    c.requires.told in
    tells to c.args.edits m.move m.follows

pub returns-in-Some-clause-planned : goal.returns-in-Some-clause-planned
returns-in-Some-clause-planned c =
    let p = c.args.proposal.now in
    let known = proposed_verdicts p in
    let to = c.args.to.now in
    let tells = subst (λ (o : Option Conflict). TellsMoveConflict p.workspace.now.graph known p.path.now to o) c.in-Some.is c.requires.told in
    subst (λ (r : Refusal). PlansChange (proposed_snapshot p) known Move c.args.edits (Err r)) (sym c.told.ensures)
    (conflict_refused (proposed_snapshot p) known p.path.now to c.args.edits Move c.requires.planned c.in-Some.conflict tells)

pub returns-in-None-clause-planned : goal.returns-in-None-clause-planned
returns-in-None-clause-planned c = c.plan_kept.ensures.planned

pub returns-in-None-clause-known : goal.returns-in-None-clause-known
returns-in-None-clause-known c = c.plan_kept.ensures.known
