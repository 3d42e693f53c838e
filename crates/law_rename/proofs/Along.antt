-- Identifiers of one layout that stand in another one, under other numbers: they are bound alike, where all that may declare in the other is
-- among them.
use Rattle.std.proofs.Common.{ℕ, ◌≡◌, ◌<◌, ◌⊎◌, inl, inr, List, true, sym, ap, ◌∙◌, subst, arith}
use Rattle.std.specs.Prelude.{◌↔◌}
use Rattle.std.proofs.lemmas.Bool.{cases_order}
use Rattle.go_scope.specs.declared.model.Position.{Position}
use Rattle.go_scope.specs.declared.model.Role.{Role}
use Rattle.go_scope.specs.Scopes.{Holds, IsInside}
use Rattle.go_scope.specs.Bindings.{BindsAt, Counts, Declares, Displaces, InScope, IsBoundTo, IsLeftName, Layout, MayDeclare}
use Rattle.go_scope.specs.Bindings.{Names, SameBlock, block_of, is_left_name, is_use, may_declare, own, scope_of, use_bound}

-- a use, or a left name of `:=`: their places tell what is in scope at them
abbrev pub IsLooked : Role → Type 0
IsLooked r = (is_use r ≡ true) ⊎ (is_left_name r ≡ true)

pub record Along (e : ℕ → ℕ) (l k : Layout) : Type 0 where
  pub roles : (d : ℕ) → k.role (e d) ≡ l.role d
  pub places : (d : ℕ) → IsLooked (l.role d) → k.place (e d) ≡ l.place d
  pub rises : (c d : ℕ) → c < d → e c < e d
  pub covers : (x : ℕ) → MayDeclare k x → (d : ℕ) × (e d ≡ x)

module _ (e : ℕ → ℕ) (l k : Layout) (a : Along e l k) (later : Names) where
  -- their names
  abbrev names : Names
  names d = later (e d)

  less_back : (c d : ℕ) → e c < e d → c < d
  less_back c d less = elim (cases_order c d) [
    | inl same ↦ (let q : e c ≡ e d = ap e same in absurd (omega arith))
    | inr o ↦ elim o [ inl lt ↦ lt | inr gt ↦ (let q : e d < e c = a.rises d c gt in absurd (omega arith)) ]
  ]

  same_back : (c d : ℕ) → e c ≡ e d → c ≡ d
  same_back c d same = elim (cases_order c d) [
    | inl is ↦ is
    | inr o ↦ elim o [
      | inl lt ↦ (let q : e c < e d = a.rises c d lt in absurd (omega arith))
      | inr gt ↦ (let q : e d < e c = a.rises d c gt in absurd (omega arith))
    ]
  ]

  -- A fact on these identifiers is one on all that may declare.
  each : (Q : ℕ → Type 0) → ((d : ℕ) → Q (e d)) → (x : ℕ) → MayDeclare k x → Q x
  each Q holds x may = let c = a.covers x may in subst Q c.1 (holds c.0)

  block : (d : ℕ) → block_of (k.role (e d)) ≡ block_of (l.role d)
  block d = ap block_of (a.roles d)

  may : (d : ℕ) → MayDeclare l d ↔ MayDeclare k (e d)
  may d = ((λ m. ap may_declare (a.roles d) ∙ m), (λ m. sym (ap may_declare (a.roles d)) ∙ m))

  left : (d : ℕ) → IsLeftName l d ↔ IsLeftName k (e d)
  left d = ((λ m. ap is_left_name (a.roles d) ∙ m), (λ m. sym (ap is_left_name (a.roles d)) ∙ m))

  same : (c d : ℕ) → SameBlock l c d ↔ SameBlock k (e c) (e d)
  same c d = ((λ s. block c ∙ s ∙ sym (block d)), (λ s. sym (block c) ∙ s ∙ block d))

  scope : (d u : ℕ) → IsLooked (l.role u) → InScope l d u ↔ InScope k (e d) (e u)
  scope d u looked =
      let there : k.place (e u) ≡ l.place u = a.places u looked in
      let over : k.role (e d) ≡ l.role d = a.roles d in (
        (λ h. subst (λ (r : Role). Holds (scope_of r) (k.place (e u))) (sym over) (subst (λ (p : Position). Holds (scope_of (l.role d)) p) (sym there) h)),
        (λ h. subst (λ (p : Position). Holds (scope_of (l.role d)) p) there (subst (λ (r : Role). Holds (scope_of r) (k.place (e u))) over h)),
      )

  inside : (c d : ℕ) → IsInside (scope_of (k.role (e c))) (scope_of (k.role (e d))) ↔ IsInside (scope_of (l.role c)) (scope_of (l.role d))
  inside c d =
      let one : k.role (e c) ≡ l.role c = a.roles c in
      let other : k.role (e d) ≡ l.role d = a.roles d in (
        (λ h. subst (λ (r : Role). IsInside (scope_of (l.role c)) (scope_of r)) other
            (subst (λ (r : Role). IsInside (scope_of r) (scope_of (k.role (e d)))) one h)),
        (λ h. subst (λ (r : Role). IsInside (scope_of r) (scope_of (k.role (e d)))) (sym one)
            (subst (λ (r : Role). IsInside (scope_of (l.role c)) (scope_of r)) (sym other) h)),
      )

  declares_forth : (d : ℕ) → Declares l names d → Declares k later (e d)
  declares_forth d x = record {
    may = (may d).0 x.may;
    is_new = λ is_left y may_y.
        each (λ y. MayDeclare k y → SameBlock k y (e d) → later y ≡ later (e d) → InScope k y (e d) → ⊥)
        (λ c may_c block name holds.
        let was : IsLeftName l d = (left d).1 is_left in
        x.is_new was c ((may c).1 may_c) ((same c d).1 block) name ((scope c d (inr was)).1 holds))
        y may_y may_y;
  }

  declares_back : (d : ℕ) → Declares k later (e d) → Declares l names d
  declares_back d x = record {
    may = (may d).1 x.may;
    is_new = λ is_left c may_c block name holds.
        x.is_new ((left d).0 is_left) (e c) ((may c).0 may_c) ((same c d).0 block) name ((scope c d (inr is_left)).0 holds);
  }

  displaces_forth : (c d : ℕ) → Displaces l c d → Displaces k (e c) (e d)
  displaces_forth c d (inl s) = inl ((same c d).0 s.0, a.rises c d s.1)
  displaces_forth c d (inr p) = inr (block c ∙ p.0, (p.1.0, block d ∙ p.1.1))

  displaces_back : (c d : ℕ) → Displaces k (e c) (e d) → Displaces l c d
  displaces_back c d (inl s) = inl ((same c d).1 s.0, less_back c d s.1)
  displaces_back c d (inr p) = inr (sym (block c) ∙ p.0, (p.1.0, sym (block d) ∙ p.1.1))

  counts_forth : (d : ℕ) → Counts l names d → Counts k later (e d)
  counts_forth d x = record {
    declares = declares_forth d x.declares;
    first = λ y declares.
        each (λ y. Declares k later y → later y ≡ later (e d) → Displaces k y (e d) → ⊥)
        (λ c declares_c name displaces. x.first c (declares_back c declares_c) name (displaces_back c d displaces))
        y declares.may declares;
  }

  counts_back : (d : ℕ) → Counts k later (e d) → Counts l names d
  counts_back d x = record {
    declares = declares_back d x.declares;
    first = λ c declares name displaces. x.first (e c) (declares_forth c declares) name (displaces_forth c d displaces);
  }

  binds_forth : (name : List ℕ) (u d : ℕ) → IsLooked (l.role u) → BindsAt l names name u d → BindsAt k later name (e u) (e d)
  binds_forth name u d looked x = record {
    counts = counts_forth d x.counts;
    named = x.named;
    in_scope = (scope d u looked).0 x.in_scope;
    innermost = λ y counts.
        each (λ y. Counts k later y → later y ≡ name → InScope k y (e u) → IsInside (scope_of (k.role y)) (scope_of (k.role (e d))) → y ≡ e d)
        (λ c counts_c named holds within.
        ap e (x.innermost c (counts_back c counts_c) named ((scope c u looked).1 holds) ((inside c d).0 within)))
        y counts.declares.may counts;
  }

  binds_back : (name : List ℕ) (u d : ℕ) → IsLooked (l.role u) → BindsAt k later name (e u) (e d) → BindsAt l names name u d
  binds_back name u d looked x = record {
    counts = counts_back d x.counts;
    named = x.named;
    in_scope = (scope d u looked).1 x.in_scope;
    innermost = λ c counts named holds within.
        same_back c d (x.innermost (e c) (counts_forth c counts) named ((scope c u looked).0 holds) ((inside c d).1 within));
  }

  uses : (u : ℕ) → (is_use (l.role u) ≡ true) ↔ (is_use (k.role (e u)) ≡ true)
  uses u = ((λ m. ap is_use (a.roles u) ∙ m), (λ m. sym (ap is_use (a.roles u)) ∙ m))

  bound_forth : (u d : ℕ) → IsBoundTo l names u d → IsBoundTo k later (e u) (e d)
  bound_forth u d (use_bound (inl is) x) = use_bound (inl ((uses u).0 is)) (binds_forth (names u) u d (inl is) x)
  bound_forth u d (use_bound (inr is) x) =
      use_bound (inr ((left u).0 is.0, λ y. is.1 (declares_back u y))) (binds_forth (names u) u d (inr is.0) x)
  bound_forth u d (own p c) = own (ap e p) (counts_forth d c)

  bound_back : (u d : ℕ) → IsBoundTo k later (e u) (e d) → IsBoundTo l names u d
  bound_back u d (use_bound (inl is) x) =
      let was : is_use (l.role u) ≡ true = (uses u).1 is in use_bound (inl was) (binds_back (names u) u d (inl was) x)
  bound_back u d (use_bound (inr is) x) =
      let was : IsLeftName l u = (left u).1 is.0 in
      use_bound (inr (was, λ y. is.1 (declares_forth u y))) (binds_back (names u) u d (inr was) x)
  bound_back u d (own p c) = own (same_back u d p) (counts_back d c)

  pub bound_along : (u d : ℕ) → IsBoundTo l names u d ↔ IsBoundTo k later (e u) (e d)
  bound_along u d = (bound_forth u d, bound_back u d)
