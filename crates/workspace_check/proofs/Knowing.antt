-- Known verdicts, with one package more.
use Rattle.std.proofs.Common.{ℕ, ◌≡◌, ◌⊎◌, inl, inr, Bool, List, refl, sym, ap, subst, ◌∙◌}
use Rattle.std.specs.Prelude.{Contains, Option, Some, None, slice_get}
use Rattle.std.proofs.Math.Path.{ap₂}
use Rattle.std.proofs.lemmas.Option.{none-some, same_Some}
use Rattle.base_files.specs.Workspace.{Workspace}
use Rattle.base_files.specs.Packages.{package_paths}
use Rattle.workspace_graph.proofs.ByPath.{at_contains}
use Rattle.workspace_graph.proofs.PackagePaths.{paths_sorted, one_number}
use Rattle.types_declared.specs.States.{state_in}
use Rattle.types_expr.specs.declared.exports.ExportData.{ExportData as FoundExportData}
use Rattle.types_expr.specs.WorldView.{known_at}
use Rattle.types_declared.specs.Package.{ExportData}
use Rattle.types_declared.specs.ExportTablesView.{name_in, known_name, export_data_in, export_data_known, no_export_data, HasSameEntry, SetsKnown}
use Rattle.types_declared.specs.declared.export_tables.ExportTable.{ExportTable}
use Rattle.workspace_check.specs.declared.finding.Finding.{Finding}
use Rattle.workspace_check.specs.Verdicts.{BuildsOn, Verdict, IsVerdict, follows}
use Rattle.workspace_check.specs.KnownFindings.{is_unknown, verdicts_by, verdict_from, AreNamedEntries}
use Rattle.workspace_check.specs.Steps.{AreKnown, LearnsFinding}

-- where the same is known of a path

pub same_known : (all more : ExportTable) → more ≡ all → (q : List ℕ) → HasSameEntry all more q
same_known all more e q = record {
  export_data = ap (λ i. export_data_in i q) e;
  name = ap (λ i. name_in i q) e;
  state =
      ap (λ (i : ExportTable). state_in i.states q) e;
}

abbrev pub verdict_of : Bool → ExportData → Verdict
verdict_of faulty export_data = record { faulty = faulty; export_data = export_data }

pub verdict_same : (all more : ExportTable) (q : List ℕ) → HasSameEntry all more q → verdicts_by all q ≡ verdicts_by more q
verdict_same all more q same = ap₂ verdict_of (sym (ap is_unknown same.name)) (sym same.export_data)

-- where it is set what is known of a package, its verdict is that
pub verdict_set : (old new : ExportTable) (p : List ℕ) (known : Option FoundExportData) → SetsKnown old new p known → verdict_from p known ≡ verdicts_by new p
verdict_set old new p known set = ap₂ verdict_of (sym (ap is_unknown set.has_name)) (sym set.has_export_data)

-- where no name is known of a package, nothing is
unnamed : (p : List ℕ) (known : Option FoundExportData) → known_name known ≡ None → export_data_known p known ≡ no_export_data p
unnamed p None gone = refl
unnamed p (Some i) gone = absurd (none-some i.scope.name.items (sym gone))

pub is_whole : (all : ExportTable) → AreNamedEntries all
is_whole all q gone = unnamed q (known_at all.definitions q) gone

-- a package that is known is another than one that is not
pub another : (w : Workspace) (Is : ℕ → Type 0) (n : ℕ) (p : List ℕ) → slice_get (package_paths w) n ≡ Some p → (Is n → ⊥) → (m : ℕ) (r : List ℕ) → Is m →
    slice_get (package_paths w) m ≡ Some r → r ≡ p → ⊥
another w Is n p at new_one m r c at_m e = new_one (subst Is (one_number (package_paths w) (paths_sorted w) m n p (at_m ∙ ap Some e) at) c)

-- the same packages are known
pub known_as : (w : Workspace) (Is So : ℕ → Type 0) (all : ExportTable) → ((m : ℕ) → So m → Is m) → ((m : ℕ) → Is m → So m) → AreKnown w Is all →
    AreKnown w So all
known_as w Is So all there back h = record {
  right = λ m r c at. h.right m r (there m c) at;
  fresh = λ m r none at. h.fresh m r (λ c. none (back m c)) at;
  outside = h.outside;
  whole = h.whole;
}

module _ (w : Workspace) (Is So : ℕ → Type 0) (n : ℕ) (p : List ℕ) (at : slice_get (package_paths w) n ≡ Some p) (more_in : (m : ℕ) → So m → Is m ⊎ (n ≡ m))
    (keeps : (m : ℕ) → Is m → So m) (here : So n) (new_one : Is n → ⊥)
    (all more : ExportTable) (h : AreKnown w Is all) where
  module _ (elsewhere : (q : List ℕ) → (q ≡ p → ⊥) → HasSameEntry all more q) where
    right_next : IsVerdict w p (verdicts_by more p) → (m : ℕ) (r : List ℕ) → So m → slice_get (package_paths w) m ≡ Some r → IsVerdict w r (verdicts_by more r)
    right_next own m r c at_m = elim (more_in m c) [
      | inl before ↦ subst (IsVerdict w r) (verdict_same all more r (elsewhere r (another w Is n p at new_one m r before at_m))) (h.right m r before at_m)
      | inr e ↦ (
          let path : p ≡ r = same_Some p r (sym at ∙ subst (λ k. slice_get (package_paths w) k ≡ Some r) (sym e) at_m) in
          subst (λ q. IsVerdict w q (verdicts_by more q)) path own)
    ]

    fresh_next : (m : ℕ) (r : List ℕ) → (So m → ⊥) → slice_get (package_paths w) m ≡ Some r → name_in more r ≡ None
    fresh_next m r none at_m =
        let other : r ≡ p → ⊥ = λ e. none (subst So (sym (one_number (package_paths w) (paths_sorted w) m n p (at_m ∙ ap Some e) at)) here) in
        (elsewhere r other).name ∙ h.fresh m r (λ c. none (keeps m c)) at_m

    outside_next : (q : List ℕ) → (Contains (package_paths w) q → ⊥) → name_in more q ≡ None
    outside_next q none = (elsewhere q (λ e. none (subst (Contains (package_paths w)) (sym e) (at_contains w n p at)))).name ∙ h.outside q none

    -- one of which the verdict is known now
    pub known_next : AreNamedEntries more → IsVerdict w p (verdicts_by more p) → AreKnown w So more
    known_next whole own = record { right = right_next own; fresh = fresh_next; outside = outside_next; whole = whole }

  -- one that was judged by what was known of all that it builds on
  pub learnt_next : (f : Finding) → ((q : List ℕ) → BuildsOn w p q → (k : ℕ) × (Is k × (slice_get (package_paths w) k ≡ Some q))) →
      LearnsFinding w p f all more →
      AreKnown w So more
  learnt_next f below l = known_next l.elsewhere l.whole (follows (verdicts_by all) (λ q on. (let k = below q on in h.right k.0 q k.1.0 k.1.1)) l.is_verdict)
