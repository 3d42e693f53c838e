-- The answers to the goals of `plan::plan_declaration`.
use Rattle.std.proofs.Common.{List, sym, subst}
use Rattle.refs_binding.specs.declared.declaration.Declaration.{Declaration}
use Rattle.refs_binding.specs.Uses.{IsCheckedPackage}
use Rattle.refs_binding.specs.WorkspaceFindings.{WorkspaceFindings}
use Rattle.refs_binding.specs.Workspaces.{known_in}
use Rattle.refactor_coupled.specs.Coupling.{IsRenamedSet}
use Rattle.refactor_plan.specs.Bindings.{verdicts_read, workspace_read}
use Rattle.refactor_plan.proofs.plan.plan_declaration.Goals as goal

pub plan_renaming-requires-clause-set : goal.plan_renaming-requires-clause-set
plan_renaming-requires-clause-set c =
    let read = c.args.read.now in
    let d = c.args.declaration.now in
    subst (λ (l : List Declaration). IsRenamedSet (IsCheckedPackage (workspace_read read) (verdicts_read read)) d l) (sym c.deref.ensures.value)
    (subst (λ (v : WorkspaceFindings). IsRenamedSet (IsCheckedPackage v.graph (known_in v.findings)) d c.in_ok-set.set.items) (sym c.requires.read.same)
    c.in_ok-set.ensures.set)
