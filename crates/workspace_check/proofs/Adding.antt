-- Findings of packages, with one package more.
use Rattle.std.proofs.Common.{ℕ, ◌≡◌, ◌<◌, inl, inr, true, false, List, [], take, sym, ap, subst, ◌∙◌, arith, MatchOption}
use Rattle.std.specs.Prelude.{Contains, Option, Some, None, slice_get}
use Rattle.std.specs.Global.{Vec}
use Rattle.std.proofs.lemmas.Bool.{true≢false, false≢true}
use Rattle.std.proofs.lemmas.List.{length-take, get_or-take}
use Rattle.std.proofs.lemmas.Option.{none-some, slice_get_within, get_or_from_slice_get}
use Rattle.base_lemmas.proofs.Elements.{nothing_in}
use Rattle.base_files.specs.Workspace.{Workspace}
use Rattle.base_files.specs.Packages.{package_paths}
use Rattle.types_expr.specs.declared.found.MemberUse.{MemberUse}
use Rattle.types_expr.specs.declared.found.Entering.{Entering}
use Rattle.workspace_graph.proofs.ByPath.{number}
use Rattle.types_declared.specs.ExportTablesView.{name_in, export_data_in, export_data_of, HasSameEntry}
use Rattle.types_expr.specs.declared.exports.ExportData.{ExportData as FoundExportData}
use Rattle.types_declared.specs.declared.export_tables.ExportTable.{ExportTable}
use Rattle.types_declared.proofs.ByteKeys.{cases_bytes}
use Rattle.types_info.specs.declared.lists.Qualified.{Qualified}
use Rattle.workspace_check.specs.declared.fault.FileFault.{FileFault}
use Rattle.workspace_check.specs.declared.finding.Finding.{Finding}
use Rattle.workspace_check.specs.declared.judging.JudgedPackage.{JudgedPackage}
use Rattle.workspace_check.specs.Verdicts.{BuildsOn, Verdicts, IsFaultBy, HasExportData, IsVerdictBy}
use Rattle.workspace_check.specs.FaultLists.{AreListedFaults}
use Rattle.workspace_check.specs.KnownFindings.{is_unknown, verdicts_by, AreNamedEntries, AreUsesOf, AreEnteringsOf, AreQualifiedOf, IsFinding}
use Rattle.workspace_check.specs.Steps.{IsBuildOrder, IsJudged, AddsOptional, LearnsFinding}
use Rattle.workspace_check.proofs.Alike.{KnowsAlike, alike_back, package_as, fault_as}
use Rattle.workspace_check.proofs.Closed.{to_package}
use Rattle.workspace_check.proofs.Knowing.{same_known}
use Rattle.workspace_check.proofs.Members.{some_in}

-- one package

elsewhere_by : (all more : ExportTable) (p : List ℕ) (o : Option FoundExportData) → AddsOptional all more p o → (q : List ℕ) → (q ≡ p → ⊥) →
    HasSameEntry all more q
elsewhere_by all more p None e q ne = same_known all more e q
elsewhere_by all more p (Some i) s q ne = s.elsewhere q ne

whole_by : (all more : ExportTable) (p : List ℕ) (o : Option FoundExportData) → AreNamedEntries all → AddsOptional all more p o → AreNamedEntries more
whole_by all more p None whole e q gone = ap (λ i. export_data_in i q) e ∙ whole q (sym (ap (λ i. name_in i q) e) ∙ gone)
whole_by all more p (Some i) whole s q gone = elim (cases_bytes q p) [
  | inl e ↦ absurd (none-some i.scope.name.items (sym gone ∙ ap (name_in more) e ∙ s.has_name))
  | inr ne ↦ (let same = s.elsewhere q ne in same.export_data ∙ whole q (sym same.name ∙ gone))
]

verdict_found : (w : Workspace) (known : Verdicts) (p : List ℕ) (faults : List FileFault) (o : Option FoundExportData) (all more : ExportTable) →
    name_in all p ≡ None → AreListedFaults (IsFaultBy w known p) faults →
    MatchOption o (faults ≡ [] → ⊥) (λ i. (faults ≡ []) × HasExportData w known p (export_data_of p i)) → AddsOptional all more p o →
    IsVerdictBy w known p (verdicts_by more p)
verdict_found w known p faults None all more fresh listed some e =
    let unknown : is_unknown (name_in more p) ≡ true = ap (λ i. is_unknown (name_in i p)) e ∙ ap is_unknown fresh in
    record {
      has_faults = (λ t. (let f = some_in faults some in (f.0, (listed.each f.0).0 f.1)), λ h. unknown);
      has_export_data = λ not. absurd (false≢true (sym not ∙ unknown));
    }
verdict_found w known p faults (Some i) all more fresh listed found s =
    let named : is_unknown (name_in more p) ≡ false = ap is_unknown s.has_name in
    record {
      has_faults = (
        λ t. absurd (true≢false (sym t ∙ named)),
        λ h. absurd (nothing_in h.0 (subst (λ l. Contains l h.0) found.0 ((listed.each h.0).1 h.1))),
      );
      has_export_data = λ e. subst (HasExportData w known p) (sym s.has_export_data) found.1;
    }

pub learns_by : (w : Workspace) (p : List ℕ) (all more : ExportTable) (j : JudgedPackage) (f : Finding) → name_in all p ≡ None → AreNamedEntries all →
    IsJudged w (verdicts_by all) p j → AddsOptional all more p j.export_data →
    f.path ≡ p → f.faults ≡ j.faults → f.members ≡ j.members → f.enterings ≡ j.enterings → f.qualified ≡ j.qualified →
    LearnsFinding w p f all more
learns_by w p all more j f fresh whole h may path faults members enterings qualified = record {
  is_finding = record {
    has_path = path;
    listed = subst (λ (v : Vec FileFault). AreListedFaults (IsFaultBy w (verdicts_by all) p) v.items) (sym faults) h.listed;
    members = λ e.
        subst (λ (v : Vec (Vec MemberUse)). AreUsesOf w (verdicts_by all) p v.items) (sym members) (h.uses (sym (ap (λ (v : Vec FileFault). v.items) faults)
        ∙ e));
    enterings = λ e.
        subst (λ (v : Vec (Vec Entering)). AreEnteringsOf w (verdicts_by all) p v.items) (sym enterings)
        (h.enterings (sym (ap (λ (v : Vec FileFault). v.items) faults) ∙ e));
    qualified = λ e.
        subst (λ (v : Vec Qualified). AreQualifiedOf w (verdicts_by all) p v.items) (sym qualified)
        (h.qualified (sym (ap (λ (v : Vec FileFault). v.items) faults) ∙ e));
  };
  is_verdict = verdict_found w (verdicts_by all) p j.faults.items j.export_data all more fresh h.listed h.has_export_data may;
  elsewhere = elsewhere_by all more p j.export_data may;
  whole = whole_by all more p j.export_data whole may;
}

-- one package further

pub finding_as : (w : Workspace) (p : List ℕ) (a b : Verdicts) → KnowsAlike w p a b → (f : Finding) → IsFinding w a p f → IsFinding w b p f
finding_as w p a b same f h = record {
  has_path = h.has_path;
  listed = record {
    in_order = h.listed.in_order;
    each = λ x. (λ c. fault_as w p a b same x ((h.listed.each x).0 c), λ is. (h.listed.each x).1 (fault_as w p b a (alike_back w p a b same) x is));
  };
  members = λ e. (let u = h.members e in record { checked = u.checked; is_package = package_as w p a b same u.checked u.is_package; are_uses = u.are_uses });
  enterings = λ e. (let u = h.enterings e in record
      { checked = u.checked; is_package = package_as w p a b same u.checked u.is_package; are_enterings = u.are_enterings });
  qualified = λ e. (let q = h.qualified e in record
      { checked = q.checked; is_package = package_as w p a b same q.checked q.is_package; are_qualified = q.are_qualified });
}

-- the order

in_taken : (xs : List ℕ) (k i m : ℕ) → i < k → slice_get xs i ≡ Some m → Contains (take k xs) m
in_taken xs k i m lt at =
    let within = slice_get_within xs i m at in
    let long = length-take k xs in (
      i,
      omega arith,
      get_or-take k xs i m lt ∙ get_or_from_slice_get xs i m m at,
    )

module _ (w : Workspace) (order : List ℕ) (built : IsBuildOrder w order) (k : ℕ) where
  pub below_before : (n : ℕ) (p q : List ℕ) → slice_get order k ≡ Some n → slice_get (package_paths w) n ≡ Some p → BuildsOn w p q → (m : ℕ) ×
      (Contains (take k order) m × (slice_get (package_paths w) m ≡ Some q))
  below_before n p q at at_n on =
      let m = number w q (to_package w p q on.imported) in
      let j = built.behind k n m.0 p q at at_n m.1 on in
      (m.0, (in_taken order k j.0 m.0 j.1 j.2, m.1))
