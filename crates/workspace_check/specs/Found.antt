-- Findings of packages and known verdicts that are right in a workspace.
use Rattle.std.specs.Prelude.{ℕ, ◌≡◌, ◌↔◌, List, Option, Some, None, length, slice_get, Contains}
use Rattle.base_files.specs.Workspace.{Workspace}
use Rattle.base_files.specs.Packages.{package_paths}
use Rattle.types_declared.specs.declared.export_tables.ExportTable.{ExportTable}
use Rattle.types_declared.specs.ExportTablesView.{name_in}
use Rattle.workspace_check.specs.Verdicts.{IsVerdict, AreVerdictsBelow, AreVerdicts}
use Rattle.workspace_check.specs.declared.finding.Finding.{Finding}
use Rattle.workspace_check.specs.declared.findings.Findings.{Findings}
use Rattle.workspace_check.specs.declared.findings.Found.{Found}
use Rattle.workspace_check.specs.declared.known.Known.{Known}
use Rattle.workspace_check.specs.declared.known.KnownVerdict.{KnownVerdict}
use Rattle.workspace_check.specs.KnownFindings.{verdicts_by, AreNamedEntries, IsFinding, IsKnownVerdict}

-- Each known verdict is right: it is the verdict on the package of its number.
abbrev pub KnowsVerdicts : Workspace → Known → Type 0
KnowsVerdicts w known = (n : ℕ) (p : List ℕ) (one : KnownVerdict) → slice_get (package_paths w) n ≡ Some p →
    slice_get known.verdicts.items n ≡ Some (Some one) → IsKnownVerdict w p one

-- Both lists hold the same verdicts under the same package numbers.
abbrev pub HoldSameVerdicts : (old new : List (Option KnownVerdict)) → Type 0
HoldSameVerdicts old new = (n : ℕ) (one : KnownVerdict) → slice_get new n ≡ Some (Some one) ↔ slice_get old n ≡ Some (Some one)

-- Each entry of the list is the verdict on the package of its path.
abbrev pub AreVerdictsOf : Workspace → List KnownVerdict → Type 0
AreVerdictsOf w list = (one : KnownVerdict) → Contains list one → Contains (package_paths w) one.finding.path × IsKnownVerdict w one.finding.path one

-- The known verdicts are right, and there are `count` places for the first packages. No contract cites it; invariants of loops here and in
-- `build_carry` do.
pub record AreFirstVerdicts (w : Workspace) (count : ℕ) (known : Known) : Type 0 where
  pub size : length known.verdicts.items ≡ count
  pub verdicts : KnowsVerdicts w known

-- The findings of all packages of a workspace, by package number. The export data has no other packages.
pub record AreFindings (w : Workspace) (found : Findings) : Type 0 where
  pub size : length found.packages.items ≡ length (package_paths w)
  pub right : AreVerdicts w (verdicts_by found.export_table)
  pub each : (n : ℕ) (p : List ℕ) (f : Finding) → slice_get (package_paths w) n ≡ Some p → slice_get found.packages.items n ≡ Some f →
      IsFinding w (verdicts_by found.export_table) p f
  pub whole : AreNamedEntries found.export_table
  pub outside : (q : List ℕ) → (Contains (package_paths w) q → ⊥) → name_in found.export_table q ≡ None

-- `f` is the finding of `p`, and `all` has the right verdicts on `p` and on the packages that it builds on.
pub record IsFindingWith (w : Workspace) (p : List ℕ) (all : ExportTable) (f : Finding) : Type 0 where
  pub below : AreVerdictsBelow w p (verdicts_by all)
  pub own : IsVerdict w p (verdicts_by all p)
  pub whole : AreNamedEntries all
  pub finding : IsFinding w (verdicts_by all) p f

-- The findings of all packages of a workspace, and known verdicts that are right.
pub record IsFound (w : Workspace) (found : Found) : Type 0 where
  pub findings : AreFindings w found.findings
  pub verdicts : KnowsVerdicts w found.known
