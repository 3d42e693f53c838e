-- The answers to the goals of `declared::place_found`.
use Rattle.std.proofs.Common.{subst}
use Rattle.refs_binding.specs.WorkspaceFindings.{WorkspaceFindings}
use Rattle.lsp_requests.specs.Uses.{AnswersDeclaration}
use Rattle.lsp_requests.proofs.Refusing.{fault_first}
use Rattle.lsp_requests.proofs.declared.place_found.Goals as goal

pub returns-in-Ok : goal.returns-in-Ok
returns-in-Ok c =
    subst (λ (v : WorkspaceFindings). AnswersDeclaration v.graph c.args.at.now.path c.args.at.now.offset c.place_in.result) c.in-Ok.ensures.1
    c.place_in.ensures

pub returns-in-Err : goal.returns-in-Err
returns-in-Err c = fault_first c.args.graph.now c.args.found.now c.args.at.now.path c.args.at.now.offset c.in-Err.refusal c.in-Err.ensures
