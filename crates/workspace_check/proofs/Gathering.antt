-- Findings of packages, with one more package judged, and with all packages judged.
use Rattle.std.proofs.Common.{ℕ, ◌≡◌, ◌+◌, ◌<◌, ◌⊎◌, inl, inr, List, [], ◌∷◌, ◌++◌, length, take, get_or, sym, ap, subst, ◌∙◌}
use Rattle.std.specs.Prelude.{Contains, Option, Some, slice_get, option_map}
use Rattle.std.proofs.Math.ListN.{set}
use Rattle.std.proofs.lemmas.Bool.{cases_eq}
use Rattle.std.proofs.Math.Path.{ap₂}
use Rattle.std.proofs.lemmas.List.{length-map, length-set, map-append, take_more}
use Rattle.std.proofs.lemmas.Option.{same_Some, slice_get_within, slice_get-map}
use Rattle.base_lemmas.proofs.Elements.{nothing_in}
use Rattle.base_files.specs.Workspace.{Workspace}
use Rattle.base_files.specs.Packages.{package_paths}
use Rattle.workspace_graph.proofs.ByPath.{number}
use Rattle.types_declared.specs.declared.export_tables.ExportTable.{ExportTable}
use Rattle.types_declared.specs.ExportTablesView.{name_in}
use Rattle.types_declared.proofs.Mentioning.{get_set_same, get_set_other}
use Rattle.workspace_check.specs.declared.finding.Finding.{Finding}
use Rattle.workspace_check.specs.declared.findings.Findings.{Findings}
use Rattle.workspace_check.specs.declared.gathered.Gathered.{Gathered}
use Rattle.workspace_check.specs.Verdicts.{BuildsOn, AreVerdictsBelow, AreVerdicts}
use Rattle.workspace_check.specs.Found.{AreFindings}
use Rattle.workspace_check.specs.KnownFindings.{verdicts_by, AreNamedEntries, IsFindingOf}
use Rattle.workspace_check.specs.Steps.{AreKnown, AreGathered, AreAllGathered, AreKnownBelow, IsGathered}
use Rattle.workspace_check.specs.Steps.{IsBuildOrder, KnowsAllFindings, AddsFinding, LearnsIfMissing, somes}
use Rattle.workspace_check.proofs.Adding.{finding_as}
use Rattle.workspace_check.proofs.Knowing.{learnt_next}
use Rattle.workspace_check.proofs.OneVerdict.{right_alike, right_below}

-- one finding more

pub gathered_or_here : (fs : List (Option Finding)) (n m : ℕ) (f : Finding) → IsGathered (set fs n (Some f)) m → IsGathered fs m ⊎ (n ≡ m)
gathered_or_here fs n m f g = elim (cases_eq m n) [
  | inl e ↦ inr (sym e)
  | inr ne ↦ inl (g.0, sym (get_set_other fs n m (Some f) ne) ∙ g.1)
]

pub gathered_stays : (fs : List (Option Finding)) (n m : ℕ) (f : Finding) → n < length fs → IsGathered fs m → IsGathered (set fs n (Some f)) m
gathered_stays fs n m f within g = elim (cases_eq m n) [
  | inl e ↦ subst (IsGathered (set fs n (Some f))) (sym e) (f, get_set_same fs n (Some f) within)
  | inr ne ↦ (g.0, get_set_other fs n m (Some f) ne ∙ g.1)
]

-- a package that was judged by what was known of all that it builds on is known

module _ (w : Workspace) (q : List ℕ) (n : ℕ) (old new : Gathered) (at : slice_get (package_paths w) n ≡ Some q) (unknown : IsGathered old.findings.items n → ⊥)
    (below : (r : List ℕ) → BuildsOn w q r → (k : ℕ) × (IsGathered old.findings.items k × (slice_get (package_paths w) k ≡ Some r)))
    (h : AreGathered w (length (package_paths w)) old) (l : AddsFinding w q n old new) where
  abbrev fs : List (Option Finding)
  fs = old.findings.items

  within : n < length fs
  within = subst (λ k. n < k) (sym h.size) (slice_get_within (package_paths w) n q at)

  right : AreVerdictsBelow w q (verdicts_by old.export_table)
  right r on = let k = below r on in h.verdicts.right k.0 r k.1.0 k.1.1

  each_learnt : (m : ℕ) (r : List ℕ) (f : Finding) → slice_get (package_paths w) m ≡ Some r → slice_get new.findings.items m ≡ Some (Some f) → IsFindingOf w r f
  each_learnt m r f at_m is =
      let is_set : slice_get (set fs n (Some l.finding)) m ≡ Some (Some f) = subst (λ gs. slice_get gs m ≡ Some (Some f)) l.is_set is in
      elim (cases_eq m n) [
        | inl e ↦ (
            let here : slice_get (set fs n (Some l.finding)) n ≡ Some (Some f) =
            subst (λ k. slice_get (set fs n (Some l.finding)) k ≡ Some (Some f)) e is_set in
            let same : l.finding ≡ f =
            same_Some l.finding f (same_Some (Some l.finding) (Some f) (sym (get_set_same fs n (Some l.finding) within) ∙ here)) in
            let path : q ≡ r = same_Some q r (sym at ∙ subst (λ k. slice_get (package_paths w) k ≡ Some r) e at_m) in
            subst (λ p. IsFindingOf w p f) path (subst (IsFindingOf w q) same
            (record { known = verdicts_by old.export_table; right = right; finding = l.learns.is_finding })))
        | inr ne ↦ h.each m r f at_m (sym (get_set_other fs n m (Some l.finding) ne) ∙ is_set)
      ]

  pub learnt_of : AreGathered w (length (package_paths w)) new
  learnt_of =
      let gs : List (Option Finding) = set fs n (Some l.finding) in
      record {
        size = ap length l.is_set ∙ length-set fs n (Some l.finding) ∙ h.size;
        verdicts = subst (λ xs. AreKnown w (IsGathered xs) new.export_table) (sym l.is_set)
            (learnt_next w (IsGathered fs) (IsGathered gs) n q at (λ m c. gathered_or_here fs n m l.finding c)
            (λ m c. gathered_stays fs n m l.finding within c) (l.finding, get_set_same fs n (Some l.finding) within) unknown
            old.export_table new.export_table h.verdicts l.finding below l.learns);
        each = each_learnt;
      }

  pub known_still : (m : ℕ) → IsGathered fs m ⊎ (n ≡ m) → IsGathered new.findings.items m
  known_still m g = subst (λ xs. IsGathered xs m) (sym l.is_set) (elim g [
    | inl before ↦ gathered_stays fs n m l.finding within before
    | inr e ↦ subst (IsGathered (set fs n (Some l.finding))) e (l.finding, get_set_same fs n (Some l.finding) within)
  ])

-- before the first package

pub none_passed : (w : Workspace) (numbers : List ℕ) (all : Gathered) → numbers ≡ [] → AreGathered w (length (package_paths w)) all →
    AreAllGathered w numbers all
none_passed w numbers all e h = record { right = h; each = λ m c. absurd (nothing_in m (subst (λ l. Contains l m) e c)) }

-- one package further

module _ (w : Workspace) (q : List ℕ) (xs ys : List ℕ) (n : ℕ) (at : slice_get (package_paths w) n ≡ Some q)
    (more_in : (m : ℕ) → Contains ys m → Contains xs m ⊎ (n ≡ m))
    (below : (r : List ℕ) → BuildsOn w q r → (k : ℕ) × (Contains xs k × (slice_get (package_paths w) k ≡ Some r)))
    (old new : Gathered) (h : AreAllGathered w xs old) where
  known_below : (r : List ℕ) → BuildsOn w q r → (k : ℕ) × (IsGathered old.findings.items k × (slice_get (package_paths w) k ≡ Some r))
  known_below r on = let k = below r on in (k.0, (h.each k.0 k.1.0, k.1.1))

  passed_over : IsGathered old.findings.items n → AreAllGathered w ys old
  passed_over here = record {
    right = h.right;
    each = λ m c. elim (more_in m c) [ inl before ↦ h.each m before | inr e ↦ subst (IsGathered old.findings.items) e here ];
  }

  pub gathered_next : LearnsIfMissing w q n old new → AreAllGathered w ys new
  gathered_next may = elim may [
    | inl l ↦ record {
      right = learnt_of w q n old new at l.0 known_below h.right l.1;
      each = λ m c. known_still w q n old new at l.0 known_below h.right l.1 m (elim (more_in m c) [ inl before ↦ inl (h.each m before) | inr e ↦ inr e ]);
    }
    | inr s ↦ subst (AreAllGathered w ys) (sym s.1) (passed_over s.0)
  ]

-- all that one package builds on

pub known_right : (w : Workspace) (p : List ℕ) (all : Gathered) → AreGathered w (length (package_paths w)) all → AreKnownBelow w p all →
    AreVerdictsBelow w p (verdicts_by all.export_table)
known_right w p all h below q on = let k = below q on in h.verdicts.right k.0 q k.1.0 k.1.1

-- all packages

pub all_known : (w : Workspace) (order : List ℕ) (all : Gathered) → IsBuildOrder w order → AreAllGathered w order all → KnowsAllFindings w all
all_known w order all built h = record { right = h.right; each = λ n lt. h.each n ((built.each n).1 lt) }

pub knows_each : (w : Workspace) (all : Gathered) → AreGathered w (length (package_paths w)) all →
    ((n : ℕ) → n < length all.findings.items → IsGathered all.findings.items n) → KnowsAllFindings w all
knows_each w all h each = record { right = h; each = λ n lt. each n (subst (λ k. n < k) (sym h.size) lt) }

pub each_there : (w : Workspace) (all : Gathered) → KnowsAllFindings w all → (n : ℕ) → n < length all.findings.items → IsGathered all.findings.items n
each_there w all h n lt = h.each n (subst (λ k. n < k) h.right.size lt)

pub there_next : (found new : List Finding) (f : Finding) (all : List (Option Finding)) (k : ℕ) (o : Option Finding) → somes found ≡ take k all →
    new ≡ found ++ f ∷ [] → k < length all → get_or all k o ≡ Some f → somes new ≡ take (k + 1) all
there_next found new f all k o before is lt at =
    ap somes is ∙ map-append (λ (x : Finding). Some x) found (f ∷ []) ∙ ap₂ (λ xs x. xs ++ x ∷ []) before (sym at) ∙ sym (take_more all k o lt)

there_at : (found : List Finding) (all : List (Option Finding)) → somes found ≡ all → (n : ℕ) (f : Finding) → slice_get found n ≡ Some f →
    slice_get all n ≡ Some (Some f)
there_at found all same n f is = ap (λ l. slice_get l n) (sym same) ∙ slice_get-map (λ (x : Finding). Some x) found n ∙
    ap (option_map (λ (x : Finding). Some x)) is

module _ (w : Workspace) (all : Gathered) (h : KnowsAllFindings w all) where
  all_right : AreVerdicts w (verdicts_by all.export_table)
  all_right p has = let n = number w p has in h.right.verdicts.right n.0 p (h.each n.0 (slice_get_within (package_paths w) n.0 p n.1)) n.1

  pub all_found : (found : Findings) → somes found.packages.items ≡ all.findings.items → found.export_table ≡ all.export_table → AreFindings w found
  all_found found same export_table =
      let right : AreVerdicts w (verdicts_by found.export_table) = subst (λ i. AreVerdicts w (verdicts_by i)) (sym export_table) all_right in
      record {
        size = sym (length-map found.packages.items (λ (f : Finding). Some f)) ∙ ap length same ∙ h.right.size;
        right = right;
        each = λ n p f at is. (
            let g = h.right.each n p f at (there_at found.packages.items all.findings.items same n f is) in
            finding_as w p g.known (verdicts_by found.export_table)
            (right_alike w p g.known (verdicts_by found.export_table) g.right (right_below w (verdicts_by found.export_table) right p)) f g.finding);
        whole = subst AreNamedEntries (sym export_table) h.right.verdicts.whole;
        outside = λ q none. ap (λ (i : ExportTable). name_in i q) export_table ∙ h.right.verdicts.outside q none;
      }
