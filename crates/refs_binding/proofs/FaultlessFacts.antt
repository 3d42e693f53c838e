-- The fact of a workspace without faults, once its fields are read.
use Rattle.std.proofs.Common.{◌≡◌, subst}
use Rattle.base_files.specs.Workspace.{Workspace}
use Rattle.workspace_check.specs.declared.findings.Findings.{Findings}
use Rattle.refs_binding.specs.WorkspaceFindings.{WorkspaceFindings}
use Rattle.refs_binding.specs.Workspaces.{IsFaultless}

-- What is true of the fields is true of their view.
pub faultless_by_view : {w : Workspace} {found : Findings} {v : WorkspaceFindings} → record { graph = w; findings = found } ≡ v → IsFaultless w found →
    IsFaultless v.graph v.findings
faultless_by_view same sound = subst (λ (v : WorkspaceFindings). IsFaultless v.graph v.findings) same sound
