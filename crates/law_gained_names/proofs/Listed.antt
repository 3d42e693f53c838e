-- The uses of a declaration are listed: their places, sorted and without duplicates.
use Rattle.std.proofs.Common.{ℕ, zero, suc, ◌≡◌, ◌<◌, ◌+◌, ◌⊎◌, inl, inr, false, List, [], ◌∷◌, ◌++◌, length, ap, sym, subst, refl, ◌∙◌, arith}
use Rattle.std.specs.Prelude.{◌↔◌, Option, Some, None, Contains, slice_get}
use Rattle.std.specs.List.Sorted.{IsStrictlySortedBy}
use Rattle.std.specs.Ordering.{ordering_reverse}
use Rattle.std.specs.declared.cmp.Ordering.{Ordering}
use Rattle.std.specs.declared.cmp.Ordering.TheVariants.{Less, Equal, Greater}
use Rattle.std.proofs.lemmas.Bool.{cases_lt}
use Rattle.std.proofs.lemmas.List.Elements.{Contains-append_left, Contains-append_right, Contains-append_cases}
use Rattle.base_lemmas.proofs.EachElement.{all_from_each}
use Rattle.base_lemmas.proofs.Elements.{nothing_in, first_in, later_in, first_or_later}
use Rattle.base_files.specs.Packages.{package_paths}
use Rattle.base_files.specs.Workspace.{Workspace}
use Rattle.base_files.specs.declared.place.Place.{Place}
use Rattle.go_ast.specs.SourceFile.{SourceFile, offset_of}
use Rattle.go_scanner.specs.declared.piece.Class.{Class}
use Rattle.go_scanner.specs.declared.piece.Class.TheVariants as class
use Rattle.go_scanner.specs.declared.piece.Piece.{Piece}
use Rattle.go_scanner.specs.CutText.{tokens_in}
use Rattle.go_scope.specs.Bindings.{is_implied}
use Rattle.types_declared.specs.Package.{Package}
use Rattle.workspace_check.specs.declared.findings.Findings.{Findings}
use Rattle.workspace_check.specs.Verdicts.{Verdicts}
use Rattle.refs_binding.specs.declared.declaration.Declaration.{Declaration}
use Rattle.refs_binding.specs.Bindings.{AddsAll}
use Rattle.refs_binding.specs.Identifiers.{BeginsAt, IsNameToken, NameBegins, file_of}
use Rattle.refs_binding.specs.Places.{place_cmp}
use Rattle.refs_binding.specs.Uses.{IsCheckedPackage, IsBoundToDeclaration, IsUseOf}
use Rattle.refs_binding.specs.Workspaces.{IsFaultless, IsPackageAt, ListsFound, known_in}
use Rattle.refs_binding.proofs.AddingAll.{BelowAll, all_none, all_as, none_below, next_below}
use Rattle.refs_binding.proofs.PlaceOrder.{place_cmp_exact, place_cmp_total}
use Rattle.refs_binding.proofs.Units.{list_of_sound, numbered, number_within, one_at, package_there}
use Rattle.refactor_rename.proofs.Editing.{all_one}
use Rattle.law_faultless.proofs.Deciding.{Decided, both, is_false, less}
use Rattle.law_gained_names.proofs.Decided.{bound_decided}

-- lists of what numbers tell

adds_appended : {X : Type 0} (xs ys : List X) (P : X → Type 0) → AddsAll [] ys P → AddsAll xs (xs ++ ys) P
adds_appended xs ys P h = record {
  keeps = λ x k. Contains-append_left xs ys x k;
  holds = λ x k. Contains-append_right xs ys x (h.holds x k);
  only = λ x k. elim (Contains-append_cases xs ys x k) [
    | inl there ↦ inl there
    | inr more ↦ elim (h.only x more) [ inl none ↦ absurd (nothing_in x none) | inr is ↦ inr is ]
  ];
}

abbrev pub Gathers : {X : Type 0} → (X → Type 0) → Type 0
Gathers {X} P = (xs : List X) × AddsAll [] xs P

pub gathered : {X : Type 0} (Q : ℕ → X → Type 0) → ((k : ℕ) → Gathers (Q k)) → (n : ℕ) → Gathers (BelowAll Q n)
gathered Q one zero = ([], none_below Q [])
gathered Q one (suc n) =
    let rest = gathered Q one n in
    let more = one n in
    let next : n + 1 ≡ suc n = omega arith in (
      rest.0 ++ more.0,
      subst (λ k. AddsAll [] (rest.0 ++ more.0) (BelowAll Q k)) next
          (next_below Q [] rest.0 (rest.0 ++ more.0) n rest.1 (adds_appended rest.0 more.0 (Q n) more.1)),
    )

-- one thing, or none
pub one_or_none : {X : Type 0} (P : X → Type 0) → ((x : X) × (P x × ((y : X) → P y → x ≡ y))) ⊎ ((x : X) → P x → ⊥) → Gathers P
one_or_none P (inl h) = (h.0 ∷ [], all_one [] (h.0 ∷ []) h.0 P refl h.1.0 h.1.1)
one_or_none P (inr none) = ([], all_none [] P none)

-- places in order

Inserts : Place → List Place → Type 0
Inserts q xs = (ys : List Place) × (IsStrictlySortedBy place_cmp ys × ((p : Place) → Contains ys p ↔ ((p ≡ q) ⊎ Contains xs p)))

first_place : (x : Place) (xs : List Place) (p : Place) → Contains (x ∷ xs) p → (p ≡ x) ⊎ Contains xs p
first_place x xs p h = elim (first_or_later x xs p h) [ inl e ↦ inl (sym e) | inr later ↦ inr later ]

place_in : (x : Place) (xs : List Place) (p : Place) → (p ≡ x) ⊎ Contains xs p → Contains (x ∷ xs) p
place_in x xs p (inl e) = subst (Contains (x ∷ xs)) (sym e) (first_in x xs)
place_in x xs p (inr later) = later_in x xs p later

module _ (q : Place) where
  below_each : (x : Place) (xs : List Place) → IsStrictlySortedBy place_cmp (x ∷ xs) → (p : Place) → Contains xs p → place_cmp x p ≡ Less
  unfolding IsStrictlySortedBy
  below_each x (y ∷ ys) h p has = elim (first_or_later y ys p has) [
    | inl e ↦ subst (λ r. place_cmp x r ≡ Less) e h.0.0
    | inr later ↦ below_each x ys (h.0.1, h.1.1) p later
  ]
  below_each x [] h p has = absurd (nothing_in p has)

  placed : (x : Place) (xs : List Place) → IsStrictlySortedBy place_cmp (x ∷ xs) → (o : Ordering) → place_cmp q x ≡ o → Inserts q xs → Inserts q (x ∷ xs)
  unfolding IsStrictlySortedBy Inserts
  placed x xs h Less e more = (
    q ∷ x ∷ xs,
    (
      (
        all_from_each (λ p. place_cmp q p ≡ Less) (x ∷ xs)
            (λ p has. elim (first_or_later x xs p has) [
              | inl same ↦ subst (λ r. place_cmp q r ≡ Less) same e
              | inr later ↦ place_cmp_total.trans q x p e (below_each x xs h p later)
            ]),
        h,
      ),
      λ p. (first_place q (x ∷ xs) p, place_in q (x ∷ xs) p),
    ),
  )
  placed x xs h Equal e more =
      let same : q ≡ x = place_cmp_exact q x e in (
        x ∷ xs,
        (
          h,
          λ p. (
            (λ has. inr has),
            (λ k. elim k [ inl is ↦ subst (Contains (x ∷ xs)) (sym (is ∙ same)) (first_in x xs) | inr has ↦ has ]),
          ),
        ),
      )
  placed x xs h Greater e more =
      let under : place_cmp x q ≡ Less = place_cmp_total.antisymm x q ∙ ap ordering_reverse e in (
        x ∷ more.0,
        (
          (
            all_from_each (λ p. place_cmp x p ≡ Less) more.0
                (λ p has. elim ((more.1.1 p).0 has) [
                  | inl is ↦ subst (λ r. place_cmp x r ≡ Less) (sym is) under
                  | inr there ↦ below_each x xs h p there
                ]),
            more.1.0,
          ),
          λ p. (
            (λ has. elim (first_place x more.0 p has) [
              | inl is ↦ inr (subst (Contains (x ∷ xs)) (sym is) (first_in x xs))
              | inr later ↦ elim ((more.1.1 p).0 later) [ inl is ↦ inl is | inr there ↦ inr (later_in x xs p there) ]
            ]),
            (λ k. elim k [
              | inl is ↦ later_in x more.0 p ((more.1.1 p).1 (inl is))
              | inr has ↦ elim (first_place x xs p has) [
                | inl is ↦ subst (Contains (x ∷ more.0)) (sym is) (first_in x more.0)
                | inr there ↦ later_in x more.0 p ((more.1.1 p).1 (inr there))
              ]
            ]),
          ),
        ),
      )

  inserted : (xs : List Place) → IsStrictlySortedBy place_cmp xs → Inserts q xs
  unfolding IsStrictlySortedBy Inserts
  inserted [] h = (q ∷ [], ((tt, tt), λ p. (first_place q [] p, place_in q [] p)))
  inserted (x ∷ xs) h = placed x xs h (place_cmp q x) refl (inserted xs h.1)

-- The same places, sorted.
abbrev pub Sorts : List Place → Type 0
Sorts xs = (ys : List Place) × (IsStrictlySortedBy place_cmp ys × ((p : Place) → Contains ys p ↔ Contains xs p))

pub sorted : (xs : List Place) → Sorts xs
unfolding IsStrictlySortedBy Sorts Inserts
sorted [] = ([], (tt, λ p. ((λ h. h), (λ h. h))))
sorted (x ∷ xs) =
    let rest = sorted xs in
    let all = inserted x rest.0 rest.1.0 in (
      all.0,
      (
        all.1.0,
        λ p. (
          (λ has. elim ((all.1.1 p).0 has) [ inl is ↦ place_in x xs p (inl is) | inr there ↦ place_in x xs p (inr ((rest.1.1 p).0 there)) ]),
          (λ has. elim (first_place x xs p has) [ inl is ↦ (all.1.1 p).1 (inl is) | inr there ↦ (all.1.1 p).1 (inr ((rest.1.1 p).1 there)) ]),
        ),
      ),
    )

-- where an identifier begins

pub name_class : (c : Class) → Decided (c ≡ class.Name)
name_class class.Name = inl refl
name_class _ = inr (λ e. cc)

is_name : (o : Option Piece) → Decided (IsNameToken o)
is_name None = inr (λ h. h)
is_name (Some t) = name_class t.class

Begins : Option SourceFile → ℕ → Place → Type 0
Begins o token place = NameBegins o token place.path place.offset

begins_here : (o : Option SourceFile) (token : ℕ) → ((x : Place) × (Begins o token x × ((y : Place) → Begins o token y → x ≡ y))) ⊎ ((x : Place) →
    Begins o token x → ⊥)
unfolding Begins
begins_here None token = inr (λ x h. h)
begins_here (Some f) token = elim (is_name (slice_get (tokens_in f.cut) token)) [
  | inr other ↦ inr (λ x h. other h.0)
  | inl name ↦ inl (
    record { path = f.path; offset = offset_of f token },
    ((name, refl, refl), λ y h. ap (λ q. record { path = q; offset = offset_of f token }) h.1 ∙ ap (λ n. record { path = y.path; offset = n }) h.2),
  )
]

module _ (w : Workspace) (found : Findings) (faultless : IsFaultless w found) (d : Declaration) where
  abbrev known : Verdicts
  known = known_in found

  -- in a package

  IsUseHere : Package → ℕ → Place → Type 0
  IsUseHere p u place = BeginsAt p place.path place.offset u × IsBoundToDeclaration w known p u d

  use_here : (p : Package) → IsCheckedPackage w known p → (u : ℕ) →
      ((x : Place) × (IsUseHere p u x × ((y : Place) → IsUseHere p u y → x ≡ y))) ⊎ ((x : Place) → IsUseHere p u x → ⊥)
  unfolding IsUseHere Begins
  use_here p is u = elim (both (u < p.size) (is_implied (p.layout.role u) ≡ false) (less u p.size) (is_false (is_implied (p.layout.role u)))) [
    | inr out ↦ inr (λ x h. out h.0.0)
    | inl stands ↦ elim (begins_here (file_of p u) (p.layout.place u).index) [
      | inr none ↦ inr (λ x h. none x h.0.1)
      | inl place ↦ elim (bound_decided w (list_of_sound w found faultless) known faultless.findings.right p is u stands d) [
        | inr other ↦ inr (λ x h. other h.1)
        | inl bound ↦ inl (place.0, (((stands, place.1.0), bound), λ y h. place.1.1 y h.0.1))
      ]
    ]
  ]

  -- in the package of a number

  IsUseIn : ℕ → Place → Type 0
  IsUseIn number place = (p : Package) × (IsPackageAt w known number p × BelowAll (IsUseHere p) p.size place)

  uses_in : (number : ℕ) → Gathers (IsUseIn number)
  unfolding IsUseIn
  uses_in number = elim (cases_lt number (length (package_paths w))) [
    | inr past ↦ ([], all_none [] (IsUseIn number) (λ x h. let lt = number_within w known number h.0 h.1.0 in absurd (omega (arith, lt, past))))
    | inl lt ↦ (
        let p = package_there w found faultless number lt in
        let here = gathered (IsUseHere p.0) (λ u. one_or_none (IsUseHere p.0 u) (use_here p.0 p.1.is_package u)) p.0.size in (
          here.0,
          all_as [] here.0 (BelowAll (IsUseHere p.0) p.0.size) (IsUseIn number) (λ x h. (p.0, (p.1, h)))
              (λ x h. subst (λ (q : Package). BelowAll (IsUseHere q) q.size x) (one_at w known number h.0 p.0 h.1.0 p.1) h.1.1) here.1,
        ))
  ]

  -- in all packages

  is_use : (place : Place) → BelowAll IsUseIn (length (package_paths w)) place → IsUseOf w known d place
  unfolding IsUseIn IsUseHere
  is_use place h =
      let x = h.2 in
      let u = x.1.1 in
      record { used_in = x.0; is_package = x.1.0.is_package; user = u.0; begins = u.2.0; bound = u.2.1 }

  is_listed : (place : Place) → IsUseOf w known d place → BelowAll IsUseIn (length (package_paths w)) place
  unfolding IsUseIn IsUseHere
  is_listed place h =
      let n = numbered w known h.used_in h.is_package in
      (n.0, number_within w known n.0 h.used_in n.1, (h.used_in, (n.1, (h.user, h.begins.0.0, (h.begins, h.bound)))))

  pub uses_listed : (places : List Place) × ListsFound w known d places
  unfolding Sorts
  uses_listed =
      let all = gathered IsUseIn uses_in (length (package_paths w)) in
      let s = sorted all.0 in (
        s.0,
        record {
          in_order = s.1.0;
          each = λ place. (
            (λ has. elim (all.1.only place ((s.1.1 place).0 has)) [ inl none ↦ absurd (nothing_in place none) | inr is ↦ is_use place is ]),
            (λ is. (s.1.1 place).1 (all.1.holds place (is_listed place is))),
          );
        },
      )
