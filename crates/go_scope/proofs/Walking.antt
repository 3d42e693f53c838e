-- Walks along the declarations of one name in inner blocks, from the last to the first.
use Rattle.std.proofs.Common.{ℕ, suc, ◌≡◌, ◌<◌, ◌≤◌, inl, inr, List, get_or, Option, Some, None, refl, sym, subst, arith}
use Rattle.std.specs.Option.{ForSome}
use Rattle.std.proofs.lemmas.Bool.{cases_order}
use Rattle.go_scope.specs.Bindings.{Layout, Names}
use Rattle.go_scope.specs.Leading.{IsLeadInside}
use Rattle.go_scope.specs.OpenBlocks.{IsOver, IsLastOpen, AreOpenLinked}
use Rattle.go_scope.proofs.Following.{over_later}

-- d is the next declaration or comes after it
abbrev pub IsLeft : Option ℕ → ℕ → Type 0
IsLeft None d = ⊥
IsLeft (Some k) d = d ≤ k

-- the number of identifiers before the ones that are left
abbrev pub left_of : Option ℕ → ℕ
left_of None = 0
left_of (Some d) = suc d

left_less : (at next : Option ℕ) (d : ℕ) → at ≡ Some d → ForSome next (λ e. e < d) → left_of next < left_of at
left_less at None d is h = let P : Option ℕ → Type 0 = λ a. 0 < left_of a in subst P (sym is) (let lt : 0 < suc d = omega arith in lt)
left_less at (Some e) d is h =
    let P : Option ℕ → Type 0 = λ a. suc e < left_of a in
    let less : e < d = h e refl in
    subst P (sym is) (let lt : suc e < suc d = omega arith in lt)

module _ (l : Layout) (size : ℕ) (names : Names) (name : List ℕ) where
  -- the properties of the next declaration
  abbrev pub IsKnown : ℕ → Option ℕ → Type 0
  IsKnown n at = ForSome at (λ d. (d < n) × IsLeadInside l names name d)

  pub last_known : (n : ℕ) (at : Option ℕ) → IsLastOpen l size names name n at → IsKnown n at
  last_known n None h = λ x e. cc
  last_known n (Some d) h = λ x e.
      let same : d ≡ x = cc in
      let P : ℕ → Type 0 = λ v. (v < n) × IsLeadInside l names name v in
      subst P same (h.0, h.1)

  -- a declaration whose block is not over is left
  pub last_left : (n : ℕ) (at : Option ℕ) → IsLastOpen l size names name n at → (e : ℕ) → e < n → IsLeadInside l names name e →
      (IsOver l size n e → ⊥) → IsLeft at e
  last_left n None h e lt k lives = lives (h e lt k)
  last_left n (Some d) h e lt k lives = elim (cases_order e d) [
    | inl same ↦ omega arith
    | inr o ↦ elim o [ inl less ↦ omega arith | inr more ↦ absurd (lives (h.2 e more lt k)) ]
  ]

  -- the next declaration after d
  next_last : (n : ℕ) (around : List (Option ℕ)) (d : ℕ) (next x : Option ℕ) → AreOpenLinked l size names n around → (d < n) × IsLeadInside l names name d →
      next ≡ get_or around d x → IsLastOpen l size names name d next
  next_last n around d next x h k e =
      let P : Option ℕ → Type 0 = λ y. IsLastOpen l size names (names d) d y in
      let Q : List ℕ → Type 0 = λ y. IsLastOpen l size names y d next in
      subst Q k.1.named (subst P (sym e) (h.each d x k.0 (record { leads = k.1.leads; named = refl; inner = k.1.inner })))

  module _ (n : ℕ) (around : List (Option ℕ)) (at next x : Option ℕ) (d : ℕ) (h : AreOpenLinked l size names n around) (is : at ≡ Some d)
      (en : next ≡ get_or around d x) (k : IsKnown n at) where
    -- a declaration that is left at d, other than d, is left after d
    pub walk_left : (e : ℕ) → IsLeadInside l names name e → (IsOver l size d e → ⊥) → IsLeft at e → (e ≡ d → ⊥) → IsLeft next e
    walk_left e inside lives left other =
        let P : Option ℕ → Type 0 = λ a. IsLeft a e in
        let le : e ≤ d = subst P is left in
        let less : e < d = elim (cases_order e d) [
          | inl same ↦ absurd (other same)
          | inr o ↦ elim o [ inl below ↦ below | inr more ↦ absurd (omega arith) ]
        ] in
        last_left d next (next_last n around d next x h (k d is) en) e less inside lives

    pub walk_known : IsKnown n next
    walk_known = λ e is_next.
        let lower = last_known d next (next_last n around d next x h (k d is) en) e is_next in
        let less : d < n = (k d is).0 in
        (omega (arith, lower.0), lower.1)

    pub walk_ends : left_of next < left_of at
    walk_ends = left_less at next d is (λ e is_next. (last_known d next (next_last n around d next x h (k d is) en) e is_next).0)

  -- a declaration whose block is over is dropped
  dropped : (n d : ℕ) (next : Option ℕ) → d < n → IsOver l size n d → ((e : ℕ) → d < e → e < n → IsLeadInside l names name e → IsOver l size n e) →
      IsLastOpen l size names name d next →
      IsLastOpen l size names name n next
  dropped n d None lt over later h = λ e below k. elim (cases_order e d) [
    | inl same ↦ (let P : ℕ → Type 0 = λ v. IsOver l size n v in subst P (sym same) over)
    | inr o ↦ elim o [ inl less ↦ over_later l size d n e (omega arith) (h e less k) | inr more ↦ later e more below k ]
  ]
  dropped n d (Some b) lt over later h = (
    (let bd : b < d = h.0 in omega arith),
    h.1,
    λ e above below k. elim (cases_order e d) [
      | inl same ↦ (let P : ℕ → Type 0 = λ v. IsOver l size n v in subst P (sym same) over)
      | inr o ↦ elim o [ inl less ↦ over_later l size d n e (omega arith) (h.2 e above less k) | inr more ↦ later e more below k ]
    ],
  )

  pub drop_over : (n : ℕ) (around : List (Option ℕ)) (at next x : Option ℕ) (d : ℕ) → AreOpenLinked l size names n around → at ≡ Some d →
      next ≡ get_or around d x → IsOver l size n d → IsLastOpen l size names name n at → IsLastOpen l size names name n next
  drop_over n around at next x d h is en over opened =
      let P : Option ℕ → Type 0 = λ a. IsLastOpen l size names name n a in
      let here = subst P is opened in
      dropped n d next here.0 over here.2 (next_last n around d next x h (here.0, here.1) en)
