-- The answers to the goals of `plan::plan_renaming`.
use Rattle.std.proofs.Common.{sym, subst}
use Rattle.refs_binding.specs.WorkspaceFindings.{WorkspaceFindings}
use Rattle.refs_binding.specs.Workspaces.{known_in}
use Rattle.refactor_plan.specs.Decided.{DecidesRename, IsLegalFor}
use Rattle.refactor_plan.proofs.plan.plan_renaming.Goals as goal

pub decision_of-requires-clause-legal : goal.decision_of-requires-clause-legal
decision_of-requires-clause-legal c =
    let asked = c.args.renaming.now in
    subst (λ (v : WorkspaceFindings). IsLegalFor v.graph (known_in v.findings) asked.declaration.now asked.name.now) (sym c.requires.read.same)
    c.requires.legal

pub plan_decided-requires-clause-decided : goal.plan_decided-requires-clause-decided
plan_decided-requires-clause-decided c =
    let asked = c.args.renaming.now in
    let x = c.in_ok-decision.decision in
    subst (λ (v : WorkspaceFindings).
    DecidesRename v.graph (known_in v.findings) asked.declaration.now asked.set.now asked.name.now x.is_hidden x.obstacle)
    c.requires.read.same c.in_ok-decision.ensures
