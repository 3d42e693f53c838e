-- The answers to the goals of `move_plan::refuse_length`.
use Rattle.std.proofs.Common.{Option, sym, subst}
use Rattle.std.specs.Prelude.{Err}
use Rattle.base_files.specs.declared.refusal.Refusal.{Refusal}
use Rattle.refs_binding.proofs.Units.{list_of_sound}
use Rattle.refactor_conflict.specs.declared.conflict.Conflict.{Conflict}
use Rattle.refactor_follow.specs.MoveConflicts.{TellsMoveConflict}
use Rattle.refactor_plan.specs.MoveSteps.{RefusesLength}
use Rattle.refactor_plan.specs.Proposals.{proposed_snapshot, proposed_verdicts}
use Rattle.refactor_plan.proofs.DecidedMoves.{name_conflict_refused, names_there, too_long}
use Rattle.refactor_plan.proofs.move_plan.refuse_length.Goals as goal

pub returns-in-None-clause-planned : goal.returns-in-None-clause-planned
returns-in-None-clause-planned c =
    let p = c.args.proposal.now in
    let w = p.workspace.now.graph in
    let known = proposed_verdicts p in
    let from = p.path.now in
    let to = c.args.to.now in
    let sound = c.has_no_faults.ensures in
    let tells = subst (λ (o : Option Conflict). TellsMoveConflict w known from to o) c.in-None.is c.requires.told in
    λ s edits fit.
    too_long (proposed_snapshot p) known from to s
    (names_there w (list_of_sound w p.workspace.now.findings sound) known sound.findings.right from to s fit c.requires.asked edits) tells

pub returns-in-Some-clause-planned : goal.returns-in-Some-clause-planned
returns-in-Some-clause-planned c =
    let p = c.args.proposal.now in
    let w = p.workspace.now.graph in
    let known = proposed_verdicts p in
    let from = p.path.now in
    let to = c.args.to.now in
    let sound = c.has_no_faults.ensures in
    let tells = subst (λ (o : Option Conflict). TellsMoveConflict w known from to o) c.in-Some.is c.requires.told in
    λ s edits fit.
    subst (λ (r : Refusal). RefusesLength w known s (Err r)) (sym c.told.ensures)
    (name_conflict_refused (proposed_snapshot p) known from to s
    (names_there w (list_of_sound w p.workspace.now.findings sound) known sound.findings.right from to s fit c.requires.asked edits) c.in-Some.conflict tells)
