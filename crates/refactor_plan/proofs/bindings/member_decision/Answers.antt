-- The answers to the goals of `bindings::member_decision`.
use Rattle.refs_binding.proofs.Units.{list_of_sound}
use Rattle.refactor_plan.specs.Bindings.{verdicts_read, workspace_read}
use Rattle.refactor_plan.proofs.DecidedRenames.{member_decided}
use Rattle.refactor_plan.proofs.bindings.member_decision.Goals as goal

pub returns : goal.returns
returns c = λ s edits fit.
    let read = c.args.read.now in
    let asked = c.args.renaming.now in
    let found = read.at.workspace.now.findings in
    member_decided (workspace_read read) (list_of_sound (workspace_read read) found c.has_no_faults.ensures) (verdicts_read read)
    c.has_no_faults.ensures.findings.right asked.declaration.now asked.set.now asked.name.now s c.requires.legal edits fit c.requires.member
    c.in_ok-member_obstacle.field-0 (c.in_ok-member_obstacle.ensures s)
