-- A verdict from before a change stays right if the package's files are equal and it sees equal export data.
use Rattle.std.proofs.Common.{ℕ, ◌≡◌, ◌<◌, inl, inr, Bool, true, false, List, length, sym, ap, subst, ◌∙◌}
use Rattle.std.specs.Prelude.{Option, Some, slice_get}
use Rattle.std.proofs.Math.ListN.{set}
use Rattle.std.proofs.Math.Path.{ap₂}
use Rattle.std.proofs.lemmas.Bool.{cases_eq}
use Rattle.std.proofs.lemmas.List.{get_or-set_same, get_or-set_other}
use Rattle.std.proofs.lemmas.Option.{same_Some}
use Rattle.base_files.specs.Workspace.{Workspace}
use Rattle.base_files.specs.Packages.{package_paths, package_files}
use Rattle.workspace_graph.specs.Search.{IsMarked}
use Rattle.workspace_graph.proofs.ByPath.{number}
use Rattle.workspace_graph.proofs.PackagePaths.{paths_sorted, one_number}
use Rattle.types_declared.proofs.Mentioning.{get_set_other}
use Rattle.types_declared.specs.ExportTablesView.{SetsKnown}
use Rattle.types_declared.specs.declared.export_tables.ExportTable.{ExportTable}
use Rattle.types_check.specs.Known.{IsKnownAlike}
use Rattle.workspace_check.specs.declared.finding.Finding.{Finding}
use Rattle.workspace_check.specs.declared.gathered.Gathered.{Gathered}
use Rattle.workspace_check.specs.declared.known.KnownVerdict.{KnownVerdict}
use Rattle.workspace_check.specs.Verdicts.{Verdict, Verdicts, IsVerdictBy, IsVerdict, AreVerdictsBelow, follows}
use Rattle.workspace_check.specs.Laws.{IsSameVerdict}
use Rattle.workspace_check.specs.KnownFindings.{is_unknown, verdicts_by, verdict_from, IsFinding}
use Rattle.workspace_check.specs.Steps.{IsGathered, LearnsFinding, LearnsIfMissing}
use Rattle.workspace_check.specs.Earlier.{AreVerdictsByNumber, HaveSameImports, AreMarkedBelow, IsReusableVerdict, KeepsExportData, KeepExportData}
use Rattle.workspace_check.proofs.Adding.{finding_as}
use Rattle.workspace_check.proofs.Alike.{KnowsAlike}
use Rattle.workspace_check.proofs.Alike as alike
use Rattle.workspace_check.proofs.Closed.{to_package}
use Rattle.workspace_check.proofs.Knowing.{is_whole, verdict_of, verdict_set}
use Rattle.workspace_check.proofs.OneVerdict.{one_verdict, verdict_by}
use Rattle.workspace_check.proofs.SameImports.{imports_back, builds_by, stands_by}
use Rattle.workspace_check.proofs.StandsAlike.{by_there, finding_there}

module _ (v w : Workspace) (same : HaveSameImports v w) (p : List ℕ) (files : package_files v p ≡ package_files w p) (a b : Verdicts)
    (sees : KnowsAlike v p a b) where
  pub steady_verdict : (x : Verdict) → IsVerdictBy v a p x → IsVerdictBy w b p x
  steady_verdict x h =
      by_there v w p (stands_by v w same p files) (stands_by w v (imports_back v w same) p (sym files)) b x (alike.verdict_as v p a b sees x h)

  pub steady_finding : (f : Finding) → IsFinding v a p f → IsFinding w b p f
  steady_finding f h =
      finding_there v w p (stands_by v w same p files) (stands_by w v (imports_back v w same) p (sym files)) b f (finding_as v p a b sees f h)

pub verdicts_follow : (v w : Workspace) (p : List ℕ) (a b : Verdicts) (x : Verdict) → HaveSameImports v w → package_files v p ≡ package_files w p →
    AreVerdictsBelow v p a → AreVerdictsBelow w p b → KnowsAlike v p a b → IsVerdict v p x → IsVerdict w p x
verdicts_follow v w p a b x same files right also sees h = follows b also (steady_verdict v w same p files a b sees x (verdict_by v p a x right h))

-- what was known of a package is what is known
was_known : (one : KnownVerdict) (all : ExportTable) (q : List ℕ) → IsKnownAlike one.known all q → verdict_from q one.known ≡ verdicts_by all q
was_known one all q is = ap₂ verdict_of (ap is_unknown is.name) is.export_data

module _ (v w : Workspace) (same : HaveSameImports v w) (verdicts : List (Option KnownVerdict)) (told : AreVerdictsByNumber v verdicts) (marks : List Bool)
    (old : Gathered) (steady : KeepExportData w verdicts old marks) where
  -- the packages that p builds on were known so
  seen_before : (p : List ℕ) (known : Verdicts) → AreVerdictsBelow v p known → AreMarkedBelow w p marks → KnowsAlike v p known (verdicts_by old.export_table)
  seen_before p known right below q on =
      let here = builds_by v w same p q on in
      let m = number w q (to_package w p q here.imported) in
      let was = (steady m.0 q m.1 (below m.0 q m.1 here)).1 in
      let then = told m.0 q was.verdict (subst (λ ps. slice_get ps m.0 ≡ Some q) (sym same.paths) m.1) was.was in
      subst (IsSameVerdict (known q)) (was_known was.verdict old.export_table q was.alike)
      (one_verdict v q (known q) (verdict_from q was.verdict.known) (right q on) then.right)

  pub stands_learnt : (p : List ℕ) (one : KnownVerdict) (new : Gathered) → IsReusableVerdict v w marks p one →
      SetsKnown old.export_table new.export_table one.finding.path one.known → LearnsFinding w p one.finding old.export_table new.export_table
  stands_learnt p one new stands there =
      let f = stands.told.finding in
      let s : SetsKnown old.export_table new.export_table p one.known =
      subst (λ (q : List ℕ). SetsKnown old.export_table new.export_table q one.known) f.finding.has_path there in
      let sees = seen_before p f.known f.right stands.below in
      let here : verdict_from p one.known ≡ verdicts_by new.export_table p = verdict_set old.export_table new.export_table p one.known s in
      record {
        is_finding = steady_finding v w same p stands.files f.known (verdicts_by old.export_table) sees one.finding f.finding;
        is_verdict = subst (IsVerdictBy w (verdicts_by old.export_table) p) here
            (steady_verdict v w same p stands.files f.known (verdicts_by old.export_table) sees (verdict_from p one.known)
            (verdict_by v p f.known (verdict_from p one.known) f.right stands.told.right));
        elsewhere = s.elsewhere;
        whole = is_whole new.export_table;
      }

-- one package further

module _ (w : Workspace) (verdicts : List (Option KnownVerdict)) (n : ℕ) (p : List ℕ) (at : slice_get (package_paths w) n ≡ Some p) (old new : Gathered)
    (marks : List Bool) (within : n < length marks) (may : LearnsIfMissing w p n old new) (steady : KeepExportData w verdicts old marks) where
  -- what is known of others stays
  still_known : (m : ℕ) (q : List ℕ) → (m ≡ n → ⊥) → slice_get (package_paths w) m ≡ Some q → IsGathered old.findings.items m →
      KeepsExportData verdicts old.export_table m q → IsGathered new.findings.items m × KeepsExportData verdicts new.export_table m q
  still_known m q other at_m known was = elim may [
    | inl l ↦ (
        let ne : q ≡ p → ⊥ = λ e. other (one_number (package_paths w) (paths_sorted w) m n p (at_m ∙ ap Some e) at) in
        let same = l.1.learns.elsewhere q ne in (
          subst (λ xs. IsGathered xs m) (sym l.1.is_set) (known.0, get_set_other old.findings.items n m (Some l.1.finding) other ∙ known.1),
          record {
            verdict = was.verdict;
            was = was.was;
            alike = record { name = was.alike.name ∙ sym same.name; export_data = was.alike.export_data ∙ sym same.export_data };
          },
        ))
    | inr s ↦ (
      subst (λ (g : Gathered). IsGathered g.findings.items m) (sym s.1) known,
      subst (λ (g : Gathered). KeepsExportData verdicts g.export_table m q) (sym s.1) was,
    )
  ]

  pub steady_next : (b : Bool) → (b ≡ true → KeepsExportData verdicts new.export_table n p) → IsGathered new.findings.items n →
      KeepExportData w verdicts new (set marks n b)
  steady_next b same here m q at_m marked = elim (cases_eq m n) [
    | inl e ↦ (
        let path : p ≡ q = same_Some p q (sym at ∙ subst (λ k. slice_get (package_paths w) k ≡ Some q) e at_m) in
        let is : b ≡ true = sym (get_or-set_same marks n b false within) ∙ subst (IsMarked (set marks n b)) e marked in
        subst (λ k. IsGathered new.findings.items k × KeepsExportData verdicts new.export_table k q) (sym e)
        (here, subst (KeepsExportData verdicts new.export_table n) path (same is)))
    | inr other ↦ (
        let was = steady m q at_m (sym (get_or-set_other marks n m b false other) ∙ marked) in
        still_known m q other at_m was.0 was.1)
  ]

pub none_steady : (w : Workspace) (verdicts : List (Option KnownVerdict)) (all : Gathered) (marks : List Bool) → ((n : ℕ) → IsMarked marks n → ⊥) →
    KeepExportData w verdicts all marks
none_steady w verdicts all marks none m q at marked = absurd (none m marked)
