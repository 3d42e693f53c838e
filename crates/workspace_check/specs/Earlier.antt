-- Verdicts on the packages of a workspace before a change, and which of them are right after it. A verdict stays right if the package has
-- equal files and sees equal export data.
use Rattle.std.specs.Prelude.{ℕ, ◌≡◌, ◌↔◌, Bool, List, Option, Some, slice_get, Contains}
use Rattle.base_files.specs.Workspace.{Workspace}
use Rattle.base_files.specs.Packages.{package_paths, package_files}
use Rattle.go_ast.specs.SourceFile.{FileParts}
use Rattle.workspace_graph.specs.Packages.{PackageImports}
use Rattle.workspace_graph.specs.Search.{IsMarked}
use Rattle.types_declared.specs.declared.export_tables.ExportTable.{ExportTable}
use Rattle.types_check.specs.Known.{IsKnownAlike}
use Rattle.workspace_check.specs.declared.gathered.Gathered.{Gathered}
use Rattle.workspace_check.specs.declared.known.KnownVerdict.{KnownVerdict}
use Rattle.workspace_check.specs.Verdicts.{BuildsOn}
use Rattle.workspace_check.specs.KnownFindings.{IsKnownVerdict}
use Rattle.workspace_check.specs.Steps.{IsGathered}

-- Each known verdict, by package number, is right.
abbrev pub AreVerdictsByNumber : Workspace → List (Option KnownVerdict) → Type 0
AreVerdictsByNumber w verdicts = (n : ℕ) (p : List ℕ) (one : KnownVerdict) → slice_get (package_paths w) n ≡ Some p → slice_get verdicts n ≡ Some (Some one) →
    IsKnownVerdict w p one

-- Both workspaces have the same packages, and each package imports the same ones.
pub record HaveSameImports (v w : Workspace) : Type 0 where
  pub paths : package_paths v ≡ package_paths w
  pub imports : (p q : List ℕ) → Contains (package_paths v) q → PackageImports v p q ↔ PackageImports w p q

-- The path and the text of a parsed file.
abbrev pub tree_file : FileParts → List ℕ × List ℕ
tree_file t = (t.path, t.cut.text)

-- All packages that `p` builds on are marked.
abbrev pub AreMarkedBelow : Workspace → List ℕ → List Bool → Type 0
AreMarkedBelow w p marks = (n : ℕ) (q : List ℕ) → slice_get (package_paths w) n ≡ Some q → BuildsOn w p q → IsMarked marks n

-- The verdict on `p` before the change: `p` has the same files in both workspaces, and all packages that it builds on are marked.
pub record IsReusableVerdict (v w : Workspace) (marks : List Bool) (p : List ℕ) (one : KnownVerdict) : Type 0 where
  pub files : package_files v p ≡ package_files w p
  pub told : IsKnownVerdict v p one
  pub below : AreMarkedBelow w p marks

-- The package `q` of this number had before the change the export data that it has in `all`.
pub record KeepsExportData (old : List (Option KnownVerdict)) (all : ExportTable) (n : ℕ) (q : List ℕ) : Type 0 where
  pub verdict : KnownVerdict
  pub was : slice_get old n ≡ Some (Some verdict)
  pub alike : IsKnownAlike verdict.known all q

-- A marked package has a known finding, and the export data that it had before the change.
abbrev pub KeepExportData : Workspace → List (Option KnownVerdict) → Gathered → List Bool → Type 0
KeepExportData w old all marks = (n : ℕ) (q : List ℕ) → slice_get (package_paths w) n ≡ Some q → IsMarked marks n →
    IsGathered all.findings.items n × KeepsExportData old all.export_table n q
