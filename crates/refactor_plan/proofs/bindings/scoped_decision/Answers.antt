-- The answers to the goals of `bindings::scoped_decision`.
use Rattle.std.proofs.Common.{subst, sym}
use Rattle.types_declared.specs.PackageView.{package_of}
use Rattle.refs_binding.proofs.Units.{list_of_sound}
use Rattle.refactor_plan.specs.Bindings.{verdicts_read, workspace_read}
use Rattle.refactor_plan.specs.Decided.{DecidesRenames}
use Rattle.refactor_plan.proofs.DecidedRenames.{can_rename, scoped_decided}
use Rattle.refactor_plan.proofs.bindings.scoped_decision.Goals as goal

pub scope_decision-requires-clause-can : goal.scope_decision-requires-clause-can
scope_decision-requires-clause-can c =
    let read = c.args.read.now in
    let asked = c.args.renaming.now in
    can_rename (workspace_read read) (verdicts_read read) (package_of read.of.unit) c.requires.read.unit.is_package c.args.n asked.declaration.now
    c.requires.scoped asked.name.now c.requires.legal

pub returns : goal.returns
returns c =
    let read = c.args.read.now in
    let asked = c.args.renaming.now in
    let w = workspace_read read in
    let found = read.at.workspace.now.findings in
    subst (DecidesRenames w (verdicts_read read) asked.declaration.now asked.set.now asked.name.now) (sym c.obstacles_of.ensures)
    (scoped_decided w (list_of_sound w found c.has_no_faults.ensures) (verdicts_read read) c.has_no_faults.ensures.findings.right
    (package_of read.of.unit) c.requires.read.unit.is_package c.args.n asked.declaration.now c.requires.scoped asked.set.now asked.name.now
    c.requires.legal c.in_ok-decision.decision c.in_ok-decision.ensures)
