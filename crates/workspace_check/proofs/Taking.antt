-- Known findings are taken, one package after the other.
use Rattle.std.proofs.Common.{ℕ, zero, suc, ◌≡◌, ◌<◌, ◌⊎◌, inl, inr, List, [], ◌∷◌, ◌++◌, length, replicate, refl, sym, ap, subst, ◌∙◌, arith}
use Rattle.std.specs.Prelude.{Option, Some, None, slice_get}
use Rattle.std.proofs.Math.ListN.{set}
use Rattle.std.proofs.lemmas.Bool.{cases_eq}
use Rattle.std.proofs.lemmas.List.{length-set}
use Rattle.std.proofs.lemmas.Option.{none-some, same_Some, slice_get_within}
use Rattle.base_files.specs.Workspace.{Workspace}
use Rattle.base_files.specs.Packages.{package_paths}
use Rattle.types_declared.specs.ExportTablesView.{name_in, export_data_in, no_export_data, SetsKnown}
use Rattle.types_declared.proofs.Mentioning.{get_set_same, get_set_other}
use Rattle.workspace_check.specs.declared.finding.Finding.{Finding}
use Rattle.workspace_check.specs.declared.gathered.Gathered.{Gathered}
use Rattle.workspace_check.specs.declared.known.KnownVerdict.{KnownVerdict}
use Rattle.workspace_check.specs.KnownFindings.{verdicts_by, IsFindingOf, IsKnownVerdict}
use Rattle.workspace_check.specs.Steps.{AreKnown, AreGathered, IsGathered}
use Rattle.workspace_check.specs.Verdicts.{IsVerdict}
use Rattle.workspace_check.proofs.Gathering.{gathered_or_here, gathered_stays}
use Rattle.workspace_check.proofs.Knowing.{is_whole, known_next, verdict_set}

-- lists, one item further

pub before_or_last : {X : Type 0} (xs : List X) (y : X) (m : ℕ) (x : X) → slice_get (xs ++ y ∷ []) m ≡ Some x → (slice_get xs m ≡ Some x) ⊎
    ((m ≡ length xs) × (y ≡ x))
before_or_last [] y zero x e = inr (refl, same_Some y x e)
before_or_last [] y (suc m) x e = absurd (none-some x e)
before_or_last (z ∷ zs) y zero x e = inl e
before_or_last (z ∷ zs) y (suc m) x e = elim (before_or_last zs y m x e) [
  | inl c ↦ inl c
  | inr h ↦ (let same : m ≡ length zs = h.0 in inr (omega arith, h.1))
]

-- nothing yet

none_there : (count n : ℕ) (f : Finding) → slice_get (replicate count None) n ≡ Some (Some f) → ⊥
none_there zero n f e = none-some (Some f) e
none_there (suc count) zero f e = none-some f (same_Some None (Some f) e)
none_there (suc count) (suc n) f e = none_there count n f e

pub no_finding : (count : ℕ) (fs : List (Option Finding)) → fs ≡ replicate count None → (n : ℕ) → IsGathered fs n → ⊥
no_finding count fs e n g = none_there count n g.0 (subst (λ l. slice_get l n ≡ Some (Some g.0)) e g.1)

pub none_gathered : (w : Workspace) (count : ℕ) (all : Gathered) → length all.findings.items ≡ count →
    ((n : ℕ) → IsGathered all.findings.items n → ⊥) → ((q : List ℕ) → name_in all.export_table q ≡ None) →
    ((q : List ℕ) → export_data_in all.export_table q ≡ no_export_data q) → AreGathered w count all
none_gathered w count all size none names export_table = record {
  size = size;
  verdicts = record {
    right = λ n p g at. absurd (none n g);
    fresh = λ n p gone at. names p;
    outside = λ q gone. names q;
    whole = λ q gone. export_table q;
  };
  each = λ n p f at is. absurd (none n (f, is));
}

-- one package further

module _ (w : Workspace) (n : ℕ) (p : List ℕ) (at : slice_get (package_paths w) n ≡ Some p) (old new : Gathered)
    (h : AreGathered w (length (package_paths w)) old) (unknown : IsGathered old.findings.items n → ⊥) (told : KnownVerdict) (tells : IsKnownVerdict w p told)
    (is_set : new.findings.items ≡ set old.findings.items n (Some told.finding))
    (there : SetsKnown old.export_table new.export_table told.finding.path told.known) where
  abbrev fs : List (Option Finding)
  fs = old.findings.items

  abbrev gs : List (Option Finding)
  gs = set fs n (Some told.finding)

  within : n < length fs
  within = subst (λ k. n < k) (sym h.size) (slice_get_within (package_paths w) n p at)

  here : slice_get gs n ≡ Some (Some told.finding)
  here = get_set_same fs n (Some told.finding) within

  each_taken : (m : ℕ) (r : List ℕ) (f : Finding) → slice_get (package_paths w) m ≡ Some r → slice_get new.findings.items m ≡ Some (Some f) → IsFindingOf w r f
  each_taken m r f at_m is =
      let there : slice_get gs m ≡ Some (Some f) = subst (λ l. slice_get l m ≡ Some (Some f)) is_set is in
      elim (cases_eq m n) [
        | inl e ↦ (
            let same : told.finding ≡ f =
            same_Some told.finding f (same_Some (Some told.finding) (Some f) (sym here ∙ subst (λ k. slice_get gs k ≡ Some (Some f)) e there)) in
            let path : p ≡ r = same_Some p r (sym at ∙ subst (λ k. slice_get (package_paths w) k ≡ Some r) e at_m) in
            subst (λ q. IsFindingOf w q f) path (subst (IsFindingOf w p) same tells.finding))
        | inr ne ↦ h.each m r f at_m (sym (get_set_other fs n m (Some told.finding) ne) ∙ there)
      ]

  pub taken_next : AreGathered w (length (package_paths w)) new
  taken_next =
      let s : SetsKnown old.export_table new.export_table p told.known =
      subst (λ (q : List ℕ). SetsKnown old.export_table new.export_table q told.known) tells.finding.finding.has_path there in
      let own : IsVerdict w p (verdicts_by new.export_table p) =
      subst (IsVerdict w p) (verdict_set old.export_table new.export_table p told.known s) tells.right in
      record {
        size = ap length is_set ∙ length-set fs n (Some told.finding) ∙ h.size;
        verdicts = subst (λ l. AreKnown w (IsGathered l) new.export_table) (sym is_set)
            (known_next w (IsGathered fs) (IsGathered gs) n p at (λ m c. gathered_or_here fs n m told.finding c)
            (λ m c. gathered_stays fs n m told.finding within c) (told.finding, here) unknown old.export_table new.export_table h.verdicts s.elsewhere
            (is_whole new.export_table) own);
        each = each_taken;
      }

-- it is known then, and what was known before

pub taken_here : (old new : List (Option Finding)) (n : ℕ) (f : Finding) → n < length old → new ≡ set old n (Some f) → IsGathered new n
taken_here old new n f within is_set = subst (λ l. IsGathered l n) (sym is_set) (f, get_set_same old n (Some f) within)

pub taken_still : (old new : List (Option Finding)) (n : ℕ) (f : Finding) → n < length old → new ≡ set old n (Some f) →
    (m : ℕ) → IsGathered old m → IsGathered new m
taken_still old new n f within is_set m g = subst (λ l. IsGathered l m) (sym is_set) (gathered_stays old n m f within g)

-- nothing else was taken
pub taken_before : (old new : List (Option Finding)) (n : ℕ) (f : Finding) → new ≡ set old n (Some f) →
    (m : ℕ) → (m ≡ n → ⊥) → IsGathered new m → IsGathered old m
taken_before old new n f is_set m other g = elim (gathered_or_here old n m f (subst (λ l. IsGathered l m) is_set g)) [
  | inl before ↦ before
  | inr e ↦ absurd (other (sym e))
]
