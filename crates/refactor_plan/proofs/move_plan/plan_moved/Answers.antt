-- The answers to the goals of `move_plan::plan_moved`.
use Rattle.refs_binding.proofs.Units.{list_of_sound}
use Rattle.refactor_preserve.specs.Planned.{change_in}
use Rattle.refactor_plan.specs.Proposals.{proposed_snapshot, proposed_verdicts}
use Rattle.refactor_plan.proofs.DecidedMoves.{moves_there}
use Rattle.refactor_plan.proofs.MovePlanned.{edits_planned}
use Rattle.refactor_plan.proofs.move_plan.plan_moved.Goals as goal

pub plan_decided-requires-clause-planned : goal.plan_decided-requires-clause-planned
plan_decided-requires-clause-planned c =
    let p = c.args.proposal.now in
    let w = p.workspace.now.graph in
    let sound = c.has_no_faults.ensures in
    moves_there w (list_of_sound w p.workspace.now.findings sound) (proposed_verdicts p) sound.findings.right p.path.now c.args.to.now c.args.edits
    c.requires.fits c.requires.movable c.requires.edits

pub plan_decided-requires-clause-told : goal.plan_decided-requires-clause-told
plan_decided-requires-clause-told c = c.requires.told

pub returns-clause-planned : goal.returns-clause-planned
returns-clause-planned c =
    let p = c.args.proposal.now in
    let w = p.workspace.now.graph in
    let known = proposed_verdicts p in
    let sound = c.has_no_faults.ensures in
    edits_planned (proposed_snapshot p) p.path.now c.args.to.now (list_of_sound w p.workspace.now.findings sound) known sound.findings.right c.args.edits
    c.requires.edits c.requires.fits (change_in c.plan_decided.result) c.plan_decided.ensures.planned

pub returns-clause-known : goal.returns-clause-known
returns-clause-known c = c.plan_decided.ensures.known
