-- Where an import gets the name that it declares already, what is known of other packages stays right.
use Rattle.std.proofs.Common.{ℕ, ◌≡◌, List, Some, sym, ap, subst, ◌∙◌}
use Rattle.std.specs.Prelude.{[], Contains, slice_get}
use Rattle.base_files.specs.Packages.{package_paths}
use Rattle.base_files.specs.Workspace.{Workspace}
use Rattle.types_declared.specs.Package.{Package}
use Rattle.workspace_check.specs.declared.finding.Finding.{Finding}
use Rattle.workspace_check.specs.declared.known.Known.{Known}
use Rattle.workspace_check.specs.declared.known.KnownVerdict.{KnownVerdict}
use Rattle.workspace_check.specs.FaultLists.{ListsFaults}
use Rattle.workspace_check.specs.Found.{KnowsVerdicts}
use Rattle.workspace_check.specs.KnownFindings.{IsFindingOf, IsKnownVerdict, verdict_from}
use Rattle.workspace_check.specs.Verdicts.{AreVerdicts, IsVerdict, Verdict, Verdicts}
use Rattle.workspace_check.proofs.Closed.{to_package}
use Rattle.workspace_check.proofs.OneVerdict.{one_verdict}
use Rattle.workspace_check.proofs.PackageFiles.{at_rank}
use Rattle.workspace_check.proofs.SameImports.{builds_by, imports_back, stands_by}
use Rattle.workspace_check.proofs.StandsAlike.{StandsAlike, finding_there}
use Rattle.workspace_graph.proofs.PackagePaths.{one_number, paths_sorted}
use Rattle.law_renamed_workspaces.specs.KnownVerdicts.{HoldVerdictsBut}
use Rattle.law_renamed_workspaces.proofs.Findings.{same_verdict}
use Rattle.law_renamed_workspaces.proofs.PackagesAfter.{known_faultless}
use Rattle.law_gained_names.specs.NamedWorkspace.{HasGainedName}

module _ (w x : Workspace) (sound : ListsFaults w []) (known : Verdicts) (right : AreVerdicts w known) (right_now : AreVerdicts x known) (number : ℕ)
    (p q : Package) (h : HasGainedName w x known number p q) where
  there : (path : List ℕ) → (path ≡ p.path → ⊥) → StandsAlike w x path
  there path away = stands_by w x h.imports path (h.others path away)

  here : (path : List ℕ) → (path ≡ p.path → ⊥) → StandsAlike x w path
  here path away = stands_by x w (imports_back w x h.imports) path (sym (h.others path away))

  -- the verdict on a package is the same
  verdict_still : (path : List ℕ) → Contains (package_paths w) path → (v : Verdict) → IsVerdict w path v → IsVerdict x path v
  verdict_still path has v is =
      let one = one_verdict w path v (known path) is (right path has) in
      let fine = known_faultless w sound known right path has in
      let same : v ≡ known path = same_verdict v (known path) one.faulty (one.export_data (one.faulty ∙ fine)) in
      subst (IsVerdict x path) (sym same) (right_now path (subst (λ ps. Contains ps path) h.imports.paths has))

  finding_still : (path : List ℕ) → (path ≡ p.path → ⊥) → (f : Finding) → IsFindingOf w path f → IsFindingOf x path f
  finding_still path away f k = record {
    known = k.known;
    right = λ o on.
        let before = builds_by x w (imports_back w x h.imports) path o on in
        verdict_still o (to_package w path o before.imported) (k.known o) (k.right o before);
    finding = finding_there w x path (there path away) (here path away) k.known f k.finding;
  }

  known_still : (path : List ℕ) → Contains (package_paths w) path → (path ≡ p.path → ⊥) → (one : KnownVerdict) → IsKnownVerdict w path one →
      IsKnownVerdict x path one
  known_still path has away one k =
      record { right = verdict_still path has (verdict_from path one.known) k.right; finding = finding_still path away one.finding k.finding }

  pub others_known : (n : ℕ) → slice_get (package_paths w) n ≡ Some p.path → (old rest : Known) → KnowsVerdicts w old →
      HoldVerdictsBut (λ k. k ≡ n) old.verdicts.items rest.verdicts.items → KnowsVerdicts x rest
  others_known n at_p old rest knows held m path one at has =
      let k = held m one has in
      let before : slice_get (package_paths w) m ≡ Some path = ap (λ ps. slice_get ps m) h.imports.paths ∙ at in
      let away : path ≡ p.path → ⊥ = (λ e. k.0 (one_number (package_paths w) (paths_sorted w) m n p.path (before ∙ ap Some e) at_p)) in
      known_still path (at_rank (package_paths w) m path before) away one (knows m path one before k.1)
