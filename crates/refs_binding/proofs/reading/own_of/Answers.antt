-- The answers to the goals of `reading::own_of`.
use Rattle.std.proofs.Common.{ap, ◌∙◌}
use Rattle.types_expr.specs.WorldView.{definitions_at}
use Rattle.refs_binding.specs.Members.{definitions_or_none}
use Rattle.refs_binding.specs.WorkspaceFindings.{WorkspaceFindings}
use Rattle.refs_binding.proofs.FaultlessFacts.{faultless_by_view}
use Rattle.refs_binding.proofs.Units.{own_known, export_data_at}
use Rattle.refs_binding.proofs.reading.own_of.Goals as goal

pub returns : goal.returns
returns c = λ p is.
    let found = c.args.workspace.now.findings in
    let sound = faultless_by_view c.workspace.view_is c.workspace.invariant in
    own_known found.export_table p c.definitions_of.result.now (export_data_at c.args.workspace.now.graph found sound c.args.number p is)
    (c.definitions_of.ensures
    ∙ ap (λ ds. definitions_or_none (definitions_at ds c.path-path.result.now))
    (c.definitions.ensures ∙ ap (λ (v : WorkspaceFindings). v.findings.export_table.definitions) c.workspace.view_is)
    ∙ ap (λ q. definitions_or_none (definitions_at found.export_table.definitions q)) (c.path-path.ensures ∙ c.path_of.ensures p.path is.has_number))
