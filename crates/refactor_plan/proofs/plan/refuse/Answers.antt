-- The answers to the goals of `plan::refuse`.
use Rattle.std.proofs.Common.{subst, ◌∙◌}
use Rattle.refs_binding.specs.Uses.{IsCheckedPackage}
use Rattle.refs_binding.specs.WorkspaceFindings.{WorkspaceFindings}
use Rattle.refs_binding.specs.Workspaces.{known_in}
use Rattle.refactor_rename.specs.Naming.{RefusesName}
use Rattle.refactor_plan.proofs.Homes.{same_home}
use Rattle.refactor_plan.proofs.plan.refuse.Goals as goal

pub refuse_name-requires-clause-home : goal.refuse_name-requires-clause-home
refuse_name-requires-clause-home c = same_home c.args.declaration.now ∙ c.requires.home

pub returns : goal.returns
returns c =
    subst (λ (v : WorkspaceFindings). RefusesName (IsCheckedPackage v.graph (known_in v.findings)) c.args.declaration.now c.args.name.now c.refuse_name.result)
    c.requires.read.same c.refuse_name.ensures
