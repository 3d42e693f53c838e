-- A workspace with the findings of its packages.
use Rattle.std.specs.Prelude.{refl}
use Rattle.std.specs.Coded.{Coded, code_by, coded×, coded_ℕ, coded_list}
use Rattle.std.specs.FinMap as files
use Rattle.base_files.specs.Workspace.{Workspace}
use Rattle.workspace_check.specs.contracts.findings.Findings.{the_row}
use Rattle.workspace_check.specs.declared.findings.Findings.{Findings}

-- A workspace, and findings of its packages.
pub record WorkspaceFindings : Type 0 where
  pub graph : Workspace
  pub findings : Findings

-- A workspace with findings is stored as the pair of both.
abbrev pub findings_code : Coded WorkspaceFindings
findings_code =
    code_by (Workspace × Findings) (coded× (files.code (coded_list coded_ℕ) (coded_list coded_ℕ)) the_row.coded) (λ v. (v.graph, v.findings))
    (λ p. record { graph = p.0; findings = p.1 }) (λ _. refl)
