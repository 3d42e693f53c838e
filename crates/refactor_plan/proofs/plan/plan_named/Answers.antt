-- The answers to the goals of `plan::plan_named`.
use Rattle.refs_binding.proofs.Units.{list_of_sound}
use Rattle.refactor_preserve.specs.Planned.{change_in}
use Rattle.refactor_plan.specs.Proposals.{proposed_snapshot, proposed_verdicts}
use Rattle.refactor_plan.proofs.Planned.{name_refused, declaration_planned}
use Rattle.refactor_plan.proofs.UsedMembers.{declared_counts, member_used}
use Rattle.refactor_plan.proofs.plan.plan_named.Goals as goal

pub returns-in-Err-clause-planned : goal.returns-in-Err-clause-planned
returns-in-Err-clause-planned c =
    let p = c.args.proposal.now in
    let sound = c.has_no_faults.ensures in
    name_refused (proposed_snapshot p) p.path.now p.offset c.args.name.now (list_of_sound p.workspace.now.graph p.workspace.now.findings sound)
    (proposed_verdicts p) sound.findings.right c.args.declaration.now c.requires.has c.in-Err.refusal c.in-Err.ensures

pub returns-in-Ok-clause-planned : goal.returns-in-Ok-clause-planned
returns-in-Ok-clause-planned c =
    let p = c.args.proposal.now in
    let sound = c.has_no_faults.ensures in
    declaration_planned (proposed_snapshot p) p.path.now p.offset c.args.name.now (list_of_sound p.workspace.now.graph p.workspace.now.findings sound)
    (proposed_verdicts p) sound.findings.right c.args.declaration.now c.requires.has c.in-Ok.ensures (change_in c.plan_declaration.result)
    c.plan_declaration.ensures.planned

pub returns-in-Ok-clause-known : goal.returns-in-Ok-clause-known
returns-in-Ok-clause-known c = c.plan_declaration.ensures.known

pub plan_declaration-requires-clause-legal : goal.plan_declaration-requires-clause-legal
plan_declaration-requires-clause-legal c =
    let p = c.args.proposal.now in
    let w = p.workspace.now.graph in
    let sound = c.has_no_faults.ensures in
    record {
      form = c.requires.form;
      renamable = c.in-Ok.ensures.0;
      allowed = c.in-Ok.ensures.1;
      other = c.in-Ok.ensures.2;
      used = member_used w (list_of_sound w p.workspace.now.findings sound) (proposed_verdicts p) sound.findings.right p.path.now p.offset
          c.args.declaration.now c.requires.has;
      counts = declared_counts w (list_of_sound w p.workspace.now.findings sound) (proposed_verdicts p) sound.findings.right p.path.now p.offset
          c.args.declaration.now c.requires.has;
    }
