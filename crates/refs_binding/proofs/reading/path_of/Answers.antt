-- The answers to the goals of `reading::path_of`.
use Rattle.std.proofs.Common.{◌<◌, length, sym, ap, subst, ◌∙◌}
use Rattle.base_files.specs.Packages.{package_paths}
use Rattle.workspace_check.specs.declared.finding.Finding.{Finding}
use Rattle.refs_binding.specs.WorkspaceFindings.{WorkspaceFindings}
use Rattle.refs_binding.proofs.Units.{finding_at}
use Rattle.refs_binding.proofs.reading.path_of.Goals as goal

pub returns : goal.returns
returns c = rw (← c.workspace.view_is) (λ p at.
    let w = c.workspace.inside.graph.now in
    let found = c.workspace.inside.findings.now in
    let findings = c.workspace.invariant.findings in
    let lt = subst (λ (v : WorkspaceFindings). c.args.number < length (package_paths v.graph)) (sym c.workspace.view_is) c.requires in
    ap (λ (f : Finding). f.path) c.get.ensures ∙ (finding_at w found findings c.args.number p c.index.result.now at
    (subst (λ m. c.args.number < m) (sym findings.size) lt) c.index.ensures).has_path)
