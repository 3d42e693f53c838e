-- Numbers at tokens, set one after another.
use Rattle.std.proofs.Common.{ℕ, ◌≡◌, ◌+◌, ◌<◌, inl, inr, sym, subst, refl, ◌∙◌, arith}
use Rattle.std.specs.Prelude.{Option, Some, None}
use Rattle.std.proofs.lemmas.Bool.{cases_lt, cases_eq}
use Rattle.go_scope.specs.declared.model.Position.{Position}
use Rattle.go_scope.specs.Bindings.{Layout}
use Rattle.go_scope.specs.Table.{LiesAt}
use Rattle.go_scope.specs.ByToken.{Numbers, SetsIfUnset, first, later, EntersIdentifier, stands, stands_nowhere, IsFirstBelow, AreIdentifiers}

-- one more number, which does not satisfy P
pub widen : (P : ℕ → Type 0) (n : ℕ) (o : Option ℕ) → (P n → ⊥) → IsFirstBelow P n o → IsFirstBelow P (n + 1) o
widen P n None none h = λ u lt p. elim (cases_lt u n) [ inl below ↦ h u below p | inr ge ↦ let e : u ≡ n = omega arith in none (subst P e p) ]
widen P n (Some u) none h = record { within = let lt : u < n = h.within in omega arith; holds = h.holds; first = h.first }

-- one more number, where an earlier one satisfies P
pub widen_found : (P : ℕ → Type 0) (n u : ℕ) → IsFirstBelow P n (Some u) → IsFirstBelow P (n + 1) (Some u)
widen_found P n u h = record { within = let lt : u < n = h.within in omega arith; holds = h.holds; first = h.first }

-- the first number that satisfies P
pub first_now : (P : ℕ → Type 0) (n : ℕ) (o : Option ℕ) → o ≡ None → P n → IsFirstBelow P n o → IsFirstBelow P (n + 1) (Some n)
first_now P n o e p h =
    let none : (u : ℕ) → u < n → P u → ⊥ = subst (IsFirstBelow P n) e h in
    record { within = omega arith; holds = p; first = λ u lt q. none u lt q }

-- a number is entered at the one token where it satisfies P
note_more : (P : (file token : ℕ) → ℕ → Type 0) (n : ℕ) (old new : Numbers) (place : Position) → SetsIfUnset old new place n → P place.file place.index n →
    ((f t : ℕ) → P f t n → (f ≡ place.file) × (t ≡ place.index)) → ((f t : ℕ) → IsFirstBelow (P f t) n (old f t)) → (f t : ℕ) →
    IsFirstBelow (P f t) (n + 1) (new f t)
note_more P n old new place s here only h f t =
    let same : ((f' t' : ℕ) → (f' ≡ place.file → t' ≡ place.index → ⊥) → new f' t' ≡ old f' t') → (f ≡ place.file → t ≡ place.index → ⊥) →
    IsFirstBelow (P f t) (n + 1) (new f t) =
    λ kept ne. subst (IsFirstBelow (P f t) (n + 1)) (sym (kept f t ne)) (widen (P f t) n (old f t) (λ p. ne (only f t p).0 (only f t p).1) (h f t)) in
    let at : IsFirstBelow (P place.file place.index) (n + 1) (new place.file place.index) =
    elim s [
      | first free sets ↦ subst (IsFirstBelow (P place.file place.index) (n + 1)) (sym sets.here)
          (first_now (P place.file place.index) n (old place.file place.index) free here (h place.file place.index))
      | later {earlier} taken kept ↦
          subst (IsFirstBelow (P place.file place.index) (n + 1)) (sym (kept place.file place.index ∙ taken))
          (widen_found (P place.file place.index) n earlier (subst (IsFirstBelow (P place.file place.index) n) taken (h place.file place.index)))
    ] in
    let elsewhere : (f' t' : ℕ) → (f' ≡ place.file → t' ≡ place.index → ⊥) → new f' t' ≡ old f' t' =
    elim s [ first free sets ↦ sets.elsewhere | later taken kept ↦ λ f' t' ne. kept f' t' ] in
    elim (cases_eq f place.file) [
      | inl ef ↦ elim (cases_eq t place.index) [
        | inl et ↦ subst (λ z. IsFirstBelow (P z t) (n + 1) (new z t)) (sym ef)
            (subst (λ z. IsFirstBelow (P place.file z) (n + 1) (new place.file z)) (sym et) at)
        | inr nt ↦ same elsewhere (λ a b. nt b)
      ]
      | inr nf ↦ same elsewhere (λ a b. nf a)
    ]

abbrev pub place_or : Position → Option Position → Position
place_or d None = d
place_or d (Some p) = p

-- the next identifier
pub next_identifier : (l : Layout) (n : ℕ) (old new : Numbers) → EntersIdentifier l n old new → AreIdentifiers l n old → AreIdentifiers l (n + 1) new
next_identifier l n old new (stands is notes) h = note_more (λ f t u. LiesAt l (record { file = f; index = t }) u) n old new (l.place n) notes
    (is, refl, refl) (λ f t s. (sym s.1, sym s.2)) h
next_identifier l n old new (stands_nowhere none kept) h = λ f t.
    subst (IsFirstBelow (LiesAt l (record { file = f; index = t })) (n + 1)) (sym (kept f t))
    (widen (LiesAt l (record { file = f; index = t })) n (old f t) (λ s. none s.0) (h f t))
