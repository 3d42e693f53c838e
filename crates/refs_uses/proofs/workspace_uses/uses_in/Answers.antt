-- The answers to the goals of `workspace_uses::uses_in`.
use Rattle.std.proofs.Common.{subst}
use Rattle.refs_binding.specs.Uses.{AnswersUsesAt}
use Rattle.refs_binding.specs.WorkspaceFindings.{WorkspaceFindings}
use Rattle.refs_binding.proofs.Refusing.{faults_refused, uses_told}
use Rattle.refs_binding.proofs.Units.{list_of_sound}
use Rattle.refs_uses.proofs.workspace_uses.uses_in.Goals as goal

pub returns-in-Err : goal.returns-in-Err
returns-in-Err c = faults_refused c.args.graph.now c.args.found.now c.args.path.now c.args.offset c.in-Err.refusal c.in-Err.ensures

pub returns-in-Ok : goal.returns-in-Ok
returns-in-Ok c =
    uses_told c.args.graph.now c.args.path.now c.args.offset (list_of_sound c.args.graph.now c.args.found.now c.in-Ok.ensures.0) c.uses_at.result
    (subst (λ (v : WorkspaceFindings). AnswersUsesAt v.graph c.args.path.now c.args.offset c.uses_at.result) c.in-Ok.ensures.1 c.uses_at.ensures)
