-- What declares, and what names are bound to, once a declaration has another name.
use Rattle.std.proofs.Common.{ℕ, ◌≡◌, ◌<◌, inl, inr, List, refl, sym, ◌∙◌, subst, arith}
use Rattle.go_scope.specs.Table.{Precedes}
use Rattle.go_scope.specs.Bindings.{Layout, Names, IsLeftName, SameBlock, InScope, Declares, Displaces, Counts, AllCount, IsBoundTo, use_bound, own}
use Rattle.go_scope.proofs.Nesting.{Nested}
use Rattle.go_scope.proofs.Innermost.{IsFirstAt, nests_along_left, displaces_precedes, precedes_trans, precedes_not, precedes_asym, ordered, one_in_block}
use Rattle.go_scope.proofs.Innermost.{bound_of_first}
use Rattle.go_scope.proofs.Uniqueness.{same_or_not, declares_if, bound_once}
use Rattle.law_rename.specs.Renaming.{IsRenaming}

module _ (l : Layout) (nested : Nested l) where
  -- a left name that does not declare is bound to the declaration that it assigns to
  pub first_at_left : (names : Names) → AllCount l names → (x e : ℕ) → IsLeftName l x → Declares l names e → SameBlock l e x → InScope l e x →
      IsFirstAt l names (names e) x e
  first_at_left names all x e left de s he = record {
    declares = de;
    named = refl;
    in_scope = he;
    precedes = λ z dz nz hz. elim (nested.direct x z left dz.may hz) [
      | inl same ↦ inl (one_in_block l nested names z e (all z dz) (all e de) nz (same ∙ sym s))
      | inr n ↦ inr (inr (nests_along_left l e x z s n))
    ];
  }

module _ (l : Layout) (nested : Nested l) (before after : Names) (d : ℕ) (y : List ℕ)
    (all : AllCount l before) (dec : Declares l before d) (ren : IsRenaming l before d y after) where
  pub after_d : after d ≡ y
  after_d = ren.renamed d (own refl (all d dec))

  pub after_same : (z : ℕ) → z ≡ d → after z ≡ y
  after_same z e = let P : ℕ → Type 0 = λ k. after k ≡ y in subst P (sym e) after_d

  pub after_bound : (u e : ℕ) → IsBoundTo l before u e → (e ≡ d → ⊥) → after u ≡ before u
  after_bound u e b other = ren.kept u (λ c. other (bound_once l nested before u e d b c))

  pub after_other : (z : ℕ) → Declares l before z → (z ≡ d → ⊥) → after z ≡ before z
  after_other z dz other = after_bound z z (own refl (all z dz)) other

  -- a name that the rename leaves unlike before is still no new declaration
  pub declared_before : (x : ℕ) → Declares l after x → Declares l before x
  declared_before x dx = declares_if l nested before x dx.may (λ left e de s ne he.
      let bound : IsBoundTo l before x e = use_bound (inr (left, λ bx. bx.is_new left e de.may s ne he))
      (bound_of_first l nested before (before x) x e (let P : List ℕ → Type 0 = λ n. IsFirstAt l before n x e in
      subst P ne (first_at_left l nested before all x e left de s he))) in
      let same : after e ≡ after x = elim (same_or_not e d) [
        | inl p ↦ after_same e p ∙ sym (ren.renamed x (let P : ℕ → Type 0 = λ k. IsBoundTo l before x k in subst P p bound))
        | inr other ↦ after_other e de other ∙ ne ∙ sym (after_bound x e bound other)
      ] in
      dx.is_new left e de.may s same he)

  -- of a declaration other than d
  pub before_name : (z : ℕ) → Declares l after z → (z ≡ d → ⊥) → before z ≡ after z
  before_name z dz other = sym (after_other z (declared_before z dz) other)

  pub declares_other : (x : ℕ) → Declares l before x → (x ≡ d → ⊥) →
      (before x ≡ y → IsLeftName l x → SameBlock l d x → InScope l d x → ⊥) → Declares l after x
  declares_other x dx other h = declares_if l nested after x dx.may (λ left e de s ne he. elim (same_or_not e d) [
    | inl p ↦ h (sym (after_other x dx other) ∙ sym ne ∙ after_same e p) left
        (let P : ℕ → Type 0 = λ k. SameBlock l k x in subst P p s) (let P : ℕ → Type 0 = λ k. InScope l k x in subst P p he)
    | inr apart ↦ dx.is_new left e de.may s (before_name e de apart ∙ ne ∙ after_other x dx other) he
  ])

  pub declares_d : ((z : ℕ) → Declares l before z → before z ≡ y → IsLeftName l d → SameBlock l z d → InScope l z d → ⊥) → Declares l after d
  declares_d h = declares_if l nested after d dec.may (λ left e de s ne he. elim (same_or_not e d) [
    | inl p ↦ let less : e < d = nested.earlier e d de.may left s he in omega arith
    | inr apart ↦ h e (declared_before e de) (before_name e de apart ∙ ne ∙ after_d) left s he
  ])

  pub counts_other : (x : ℕ) → Declares l before x → (x ≡ d → ⊥) → (before x ≡ y → Displaces l d x → ⊥) → Counts l after x
  counts_other x dx other h = record {
    declares = declares_other x dx other (λ ny left s hx. h ny (inl (s, nested.earlier d x dec.may left s hx)));
    first = λ z dz nz p. elim (same_or_not z d) [
      | inl e ↦ h (sym (after_other x dx other) ∙ sym nz ∙ after_same z e) (let P : ℕ → Type 0 = λ k. Displaces l k x in subst P e p)
      | inr apart ↦ (all x dx).first z (declared_before z dz) (before_name z dz apart ∙ nz ∙ after_other x dx other) p
    ];
  }

  pub counts_d : ((z : ℕ) → Declares l before z → before z ≡ y → Displaces l z d → ⊥) → Counts l after d
  counts_d h = record {
    declares = declares_d (λ z dz nz left s hz. h z dz nz (inl (s, nested.earlier z d dz.may left s hz)));
    first = λ z dz nz p. elim (same_or_not z d) [
      | inl e ↦ precedes_not l nested d (let P : ℕ → Type 0 = λ k. Precedes l k d in subst P e (displaces_precedes l nested z d p))
      | inr apart ↦ h z (declared_before z dz) (before_name z dz apart ∙ nz ∙ after_d) p
    ];
  }

  -- uses of other declarations

  pub keeps_use : (u e : ℕ) → IsFirstAt l before (before u) u e → (e ≡ d → ⊥) → (before u ≡ y → InScope l d u → Precedes l d e → ⊥) →
      IsFirstAt l after (before u) u e
  keeps_use u e f other h = record {
    declares = declares_other e f.declares other (λ ny left s he.
        let less : d < e = nested.earlier d e dec.may left s he in
        h (sym f.named ∙ ny) (nested.shrinking d e u dec.may f.declares.may s less f.in_scope) (inl (s, less)));
    named = after_other e f.declares other ∙ f.named;
    in_scope = f.in_scope;
    precedes = λ z dz nz hz. elim (same_or_not z d) [
      | inl p ↦
          let hd : InScope l d u = (let P : ℕ → Type 0 = λ k. InScope l k u in subst P p hz) in
          elim (ordered l nested e d u f.declares.may dec.may f.in_scope hd) [
            | inl q ↦ absurd (other q)
            | inr o ↦ elim o [
              | inl a ↦ inr (let P : ℕ → Type 0 = λ k. Precedes l e k in subst P (sym p) a)
              | inr b ↦ absurd (h (sym nz ∙ after_same z p) hd b)
            ]
          ]
      | inr apart ↦ f.precedes z (declared_before z dz) (before_name z dz apart ∙ nz) hz
    ];
  }

  pub takes_use : (u e : ℕ) → IsFirstAt l before y u e → InScope l d u → Precedes l d e → IsFirstAt l after y u d
  takes_use u e f hd q = record {
    declares = declares_d (λ z dz nz left s hz.
        let less : z < d = nested.earlier z d dz.may left s hz in
        let zu : InScope l z u = nested.shrinking z d u dz.may dec.may s less hd in
        let zd : Precedes l z d = inl (s, less) in
        elim (f.precedes z dz nz zu) [
          | inl p ↦ precedes_asym l nested d e u dec.may f.declares.may hd f.in_scope q (let P : ℕ → Type 0 = λ k. Precedes l k d in subst P p zd)
          | inr ez ↦ precedes_asym l nested d e u dec.may f.declares.may hd f.in_scope q
              (precedes_trans l nested e z d u f.declares.may dz.may dec.may f.in_scope zu hd ez zd)
        ]);
    named = after_d;
    in_scope = hd;
    precedes = λ z dz nz hz. elim (same_or_not z d) [
      | inl p ↦ inl p
      | inr apart ↦ inr (elim (f.precedes z (declared_before z dz) (before_name z dz apart ∙ nz) hz) [
        | inl p ↦ (let P : ℕ → Type 0 = λ k. Precedes l d k in subst P (sym p) q)
        | inr ez ↦ precedes_trans l nested d e z u dec.may f.declares.may dz.may hd f.in_scope hz q ez
      ])
    ];
  }

  -- uses of d

  pub loses_use : (u e : ℕ) → IsFirstAt l before y u e → InScope l d u → Precedes l e d → IsFirstAt l after y u e
  loses_use u e f hd q =
      let other : e ≡ d → ⊥ = λ p. precedes_not l nested d (let P : ℕ → Type 0 = λ k. Precedes l k d in subst P p q) in
      record {
        declares = declares_other e f.declares other (λ ny left s he.
            precedes_asym l nested e d u f.declares.may dec.may f.in_scope hd q (inl (s, nested.earlier d e dec.may left s he)));
        named = after_other e f.declares other ∙ f.named;
        in_scope = f.in_scope;
        precedes = λ z dz nz hz. elim (same_or_not z d) [
          | inl p ↦ inr (let P : ℕ → Type 0 = λ k. Precedes l e k in subst P (sym p) q)
          | inr apart ↦ f.precedes z (declared_before z dz) (before_name z dz apart ∙ nz) hz
        ];
      }

  pub keeps_own_use : (u : ℕ) → InScope l d u → ((z : ℕ) → Declares l before z → before z ≡ y → InScope l z u → Precedes l z d → ⊥) → IsFirstAt l after y u d
  keeps_own_use u hd h = record {
    declares = declares_d (λ z dz nz left s hz.
        let less : z < d = nested.earlier z d dz.may left s hz in
        h z dz nz (nested.shrinking z d u dz.may dec.may s less hd) (inl (s, less)));
    named = after_d;
    in_scope = hd;
    precedes = λ z dz nz hz. elim (same_or_not z d) [
      | inl p ↦ inl p
      | inr apart ↦ elim (ordered l nested d z u dec.may dz.may hd hz) [
        | inl p ↦ inl (sym p)
        | inr o ↦ elim o [ inl a ↦ inr a | inr b ↦ absurd (h z (declared_before z dz) (before_name z dz apart ∙ nz) hz b) ]
      ]
    ];
  }
