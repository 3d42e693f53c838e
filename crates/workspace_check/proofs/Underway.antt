-- The findings of just the packages that one builds on are known before it is judged, and its own is known after.
use Rattle.std.proofs.Common.{ℕ, ◌≡◌, ◌<◌, ◌⊎◌, inl, inr, List, [], ◌∷◌, ◌++◌, length, take, get_or, refl, sym, subst, ◌∙◌, arith}
use Rattle.std.specs.Prelude.{Contains, Option, Some, None, slice_get}
use Rattle.std.specs.List.Sorted.{IsStrictlyIncreasing}
use Rattle.std.proofs.lemmas.List.{get_or_default, get_or-take, length-take}
use Rattle.std.proofs.lemmas.List.Elements.{Contains-push_cases}
use Rattle.std.proofs.lemmas.Map.Keys.{below_from_sorted, sorted_from_strictly_increasing}
use Rattle.std.proofs.lemmas.Option.{same_Some, slice_get_within}
use Rattle.base_files.specs.Workspace.{Workspace}
use Rattle.base_files.specs.Packages.{package_paths}
use Rattle.workspace_graph.specs.Graphs.{ListsPackages, OfPackage}
use Rattle.workspace_graph.proofs.ByPath.{number, at_contains}
use Rattle.types_info.proofs.MeaningLists.{slice_get_some}
use Rattle.workspace_check.specs.declared.finding.Finding.{Finding}
use Rattle.workspace_check.specs.declared.gathered.Gathered.{Gathered}
use Rattle.workspace_check.specs.declared.known.KnownVerdict.{KnownVerdict}
use Rattle.workspace_check.specs.Verdicts.{BuildsOn}
use Rattle.workspace_check.specs.Found.{AreVerdictsOf, IsFindingWith}
use Rattle.workspace_check.specs.KnownFindings.{verdicts_by, IsVerdictIfKnown, IsKnownVerdict}
use Rattle.workspace_check.specs.Steps.{AreGathered, AreGatheredOf, AreKnownBelow, HoldAllBelow, IsBuildOrder, IsGathered, IsKnownWithBelow, KnowsExactly}
use Rattle.workspace_check.specs.Steps.{AddsFinding, LearnsIfMissing, LearnsIfAmong, PushesOptional}
use Rattle.workspace_check.proofs.Adding.{finding_as}
use Rattle.workspace_check.proofs.Closed.{in_closure_then, not_on_itself, to_package}
use Rattle.workspace_check.proofs.Gathering.{gathered_or_here, known_right, known_still, learnt_of}
use Rattle.workspace_check.proofs.OneVerdict.{right_alike}

-- what one builds on

pub builds_then : (w : Workspace) (p q r : List ℕ) → BuildsOn w p q → BuildsOn w q r → BuildsOn w p r
builds_then w p q r first then = record {
  imported = in_closure_then w p q r first.imported then.imported;
  not_back = λ back. then.not_back (in_closure_then w r p q back first.imported);
}

module _ (w : Workspace) (n : ℕ) (p : List ℕ) (at : slice_get (package_paths w) n ≡ Some p) (numbers : List ℕ)
    (holds : ListsPackages w (BuildsOn w p) numbers) where
  below_in : (m : ℕ) (q : List ℕ) → Contains numbers m → slice_get (package_paths w) m ≡ Some q → BuildsOn w p q
  below_in m q has at_m = let s = (holds m).0 has in subst (BuildsOn w p) (same_Some s.0 q (sym s.1 ∙ at_m)) s.2

  pub all_below : IsStrictlyIncreasing numbers → HoldAllBelow w numbers
  all_below rising = record {
    rising = rising;
    in_range = λ m has. (let s = (holds m).0 has in slice_get_within (package_paths w) m s.0 s.1);
    below = λ m k q r has at_m at_k on. (holds k).1 (r, at_k, builds_then w p q r (below_in m q has at_m) on);
  }

  pub known_below : (all : Gathered) → KnowsExactly w numbers all → AreKnownBelow w p all
  known_below all h q on =
      let m = number w q (to_package w p q on.imported) in
      (m.0, (h.each m.0 ((holds m.0).1 (q, m.1, on)), m.1))

  pub not_own : Contains numbers n → ⊥
  not_own has = not_on_itself w p p (below_in n p has at) refl

  pub own_in_range : (m : ℕ) → Contains (numbers ++ n ∷ []) m → m < length (package_paths w)
  own_in_range m has = elim (Contains-push_cases numbers n m has) [
    | inl before ↦ (let s = (holds m).0 before in slice_get_within (package_paths w) m s.0 s.1)
    | inr e ↦ subst (λ k. k < length (package_paths w)) e (slice_get_within (package_paths w) n p at)
  ]

-- numbers that rise, one after the other

pub above_taken : (xs : List ℕ) → IsStrictlyIncreasing xs → (k q : ℕ) → k < length xs → Contains (take k xs) q → q < get_or xs k 0
above_taken xs up k q lt h =
    let long = length-take k xs in
    let taken : h.0 < length (take k xs) = h.1 in
    let before : h.0 < k = omega (arith, long, taken) in
    let within : h.0 < length xs = omega (arith, before, lt) in
    let is : get_or xs h.0 0 ≡ q = get_or_default xs h.0 0 q within ∙ sym (get_or-take k xs h.0 q before) ∙ h.2 in
    subst (λ m. m < get_or xs k 0) is (below_from_sorted xs h.0 k 0 (sorted_from_strictly_increasing xs up) before lt)

-- some packages are judged in an order

pub record AreJudgedTo (w : Workspace) (numbers passed : List ℕ) (all : Gathered) : Type 0 where
  pub gathered : AreGatheredOf w numbers all
  pub each : (m : ℕ) → Contains passed m → Contains numbers m → IsGathered all.findings.items m

module _ (w : Workspace) (q : List ℕ) (xs ys : List ℕ) (n : ℕ) (at : slice_get (package_paths w) n ≡ Some q)
    (more_in : (m : ℕ) → Contains ys m → Contains xs m ⊎ (n ≡ m))
    (numbers : List ℕ) (closed : HoldAllBelow w numbers)
    (before : (r : List ℕ) → BuildsOn w q r → (k : ℕ) × (Contains xs k × (slice_get (package_paths w) k ≡ Some r)))
    (old new : Gathered) (h : AreJudgedTo w numbers xs old) where
  below_here : Contains numbers n → (r : List ℕ) → BuildsOn w q r → (k : ℕ) × (IsGathered old.findings.items k × (slice_get (package_paths w) k ≡ Some r))
  below_here has r on = let k = before r on in (k.0, (h.each k.0 k.1.0 (closed.below n k.0 q r has at k.1.1 on), k.1.1))

  passed_over : ((m : ℕ) → n ≡ m → Contains numbers m → IsGathered old.findings.items m) → AreJudgedTo w numbers ys old
  passed_over here = record {
    gathered = h.gathered;
    each = λ m c has. elim (more_in m c) [ inl early ↦ h.each m early has | inr e ↦ here m e has ];
  }

  learnt_here : Contains numbers n → (IsGathered old.findings.items n → ⊥) → AddsFinding w q n old new → AreJudgedTo w numbers ys new
  learnt_here has unknown l = record {
    gathered = record {
      right = learnt_of w q n old new at unknown (below_here has) h.gathered.right l;
      just = λ m g. elim (gathered_or_here old.findings.items n m l.finding (subst (λ fs. IsGathered fs m) l.is_set g)) [
        | inl early ↦ h.gathered.just m early
        | inr e ↦ subst (Contains numbers) e has
      ];
    };
    each = λ m c has_m.
        known_still w q n old new at unknown (below_here has) h.gathered.right l m
        (elim (more_in m c) [ inl early ↦ inl (h.each m early has_m) | inr e ↦ inr e ]);
  }

  pub judged_next : LearnsIfAmong w numbers q n old new → AreJudgedTo w numbers ys new
  judged_next may = elim may [
    | inl among ↦ elim among.1 [
      | inl l ↦ learnt_here among.0 l.0 l.1
      | inr s ↦ subst (AreJudgedTo w numbers ys) (sym s.1) (passed_over (λ m e has. subst (IsGathered old.findings.items) e s.0))
    ]
    | inr s ↦ subst (AreJudgedTo w numbers ys) (sym s.1) (passed_over (λ m e has. absurd (s.0 (subst (Contains numbers) (sym e) has))))
  ]

pub all_judged : (w : Workspace) (numbers order : List ℕ) → HoldAllBelow w numbers → IsBuildOrder w order → (all : Gathered) →
    AreJudgedTo w numbers order all → KnowsExactly w numbers all
all_judged w numbers order closed built all h = record {
  gathered = h.gathered;
  each = λ n has. h.each n ((built.each n).1 (closed.in_range n has)) has;
}

-- the package behind them is known too

module _ (w : Workspace) (p : List ℕ) (n : ℕ) (old new : Gathered) (at : slice_get (package_paths w) n ≡ Some p)
    (h : AreGathered w (length (package_paths w)) old) (below : AreKnownBelow w p old) where
  pub learnt_behind : (IsGathered old.findings.items n → ⊥) → AddsFinding w p n old new → IsKnownWithBelow w p n new
  learnt_behind unknown l =
      let still = known_still w p n old new at unknown below h l in
      record {
        right = learnt_of w p n old new at unknown below h l;
        own = still n (inr refl);
        below = λ q on. (let k = below q on in (k.0, (still k.0 (inl k.1.0), k.1.1)));
      }

  pub judged_behind : LearnsIfMissing w p n old new → IsKnownWithBelow w p n new
  judged_behind may = elim may [
    | inl l ↦ learnt_behind l.0 l.1
    | inr s ↦ subst (IsKnownWithBelow w p n) (sym s.1) (record { right = h; own = s.0; below = below })
  ]

pub found_behind : (w : Workspace) (p : List ℕ) (n : ℕ) (all : Gathered) (f : Finding) → slice_get (package_paths w) n ≡ Some p →
    IsKnownWithBelow w p n all → slice_get all.findings.items n ≡ Some (Some f) → IsFindingWith w p all.export_table f
found_behind w p n all f at h is =
    let known = verdicts_by all.export_table in
    let below = known_right w p all h.right h.below in
    let g = h.right.each n p f at is in
    record {
      below = below;
      own = h.right.verdicts.right n p (f, is) at;
      whole = h.right.verdicts.whole;
      finding = finding_as w p g.known known (right_alike w p g.known known g.right below) f g.finding;
    }

-- the verdicts that were found, one further

own_verdict : (w : Workspace) (n : ℕ) (p : List ℕ) (one : KnownVerdict) → slice_get (package_paths w) n ≡ Some p → IsKnownVerdict w p one →
    Contains (package_paths w) one.finding.path × IsKnownVerdict w one.finding.path one
own_verdict w n p one at told =
    subst (λ q. Contains (package_paths w) q × IsKnownVerdict w q one) (sym told.finding.finding.has_path) (at_contains w n p at, told)

pub verdicts_next : (w : Workspace) (n : ℕ) (old new : List KnownVerdict) (o : Option KnownVerdict) → n < length (package_paths w) → PushesOptional old new o →
    OfPackage w n (λ p. IsVerdictIfKnown w p o) → AreVerdictsOf w old → AreVerdictsOf w new
verdicts_next w n old new None lt e tells h other has = h other (subst (λ l. Contains l other) e has)
verdicts_next w n old new (Some one) lt e tells h other has =
    let p = slice_get_some (package_paths w) n lt in
    elim (Contains-push_cases old one other (subst (λ l. Contains l other) e has)) [
      | inl before ↦ h other before
      | inr is ↦ subst (λ (v : KnownVerdict). Contains (package_paths w) v.finding.path × IsKnownVerdict w v.finding.path v) is
          (own_verdict w n p.0 one p.1 (tells p.0 p.1 one refl))
    ]
