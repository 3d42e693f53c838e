-- The first use that some of the listed declarations would take.
use Rattle.std.proofs.Common.{ℕ, ◌≡◌, ◌<◌, ◌≤◌, ◌+◌, ◌⊎◌, ◌↔◌, inl, inr, List, Option, Some, None, length, get_or, sym, subst, ◌∙◌, arith}
use Rattle.std.proofs.lemmas.Bool.{cases_lt}
use Rattle.go_scope.specs.declared.model.Position.{Position}
use Rattle.go_scope.specs.Bindings.{Layout, InScope, scope_of}
use Rattle.go_scope.specs.Scopes.{Holds}
use Rattle.go_scope.specs.WellFormed.{InPlaceOrder, IsNotAfter}
use Rattle.refactor_scopes.specs.Numbers.{IsFirstNumber, ListsNumbers, earlier}
use Rattle.refactor_scopes.proofs.Firsts.{earlier_first, first_as}
use Rattle.refactor_scopes.proofs.Listing.{at_place, place_of, stands_before}

-- `u` is taken by one of the first `i` listed numbers
pub record IsTakenBelow (T : ℕ → ℕ → Type 0) (numbers : List ℕ) (i u : ℕ) : Type 0 where
  pub place : ℕ
  pub before : place < i
  pub takes : T u (get_or numbers place 0)

module _ (U : ℕ → Type 0) (T : ℕ → ℕ → Type 0) (numbers : List ℕ) where
  pub none_taken : IsFirstNumber (λ u. U u × IsTakenBelow T numbers 0 u) None
  none_taken u h = let empty : h.1.place < 0 = h.1.before in omega arith

  one_more_taken : (i u : ℕ) → ((U u × IsTakenBelow T numbers i u) ⊎ (U u × T u (get_or numbers i 0))) ↔ (U u × IsTakenBelow T numbers (i + 1) u)
  one_more_taken i u = (
    (λ o. elim o [
      | inl h ↦ (h.0, record { place = h.1.place; before = (let lt : h.1.place < i = h.1.before in omega arith); takes = h.1.takes })
      | inr h ↦ (h.0, record { place = i; before = omega arith; takes = h.1 })
    ]),
    (λ h. elim (cases_lt h.1.place i) [
      | inl lt ↦ inl (h.0, record { place = h.1.place; before = lt; takes = h.1.takes })
      | inr ge ↦
          let last : h.1.place < i + 1 = h.1.before in
          let same : h.1.place ≡ i = omega arith in
          inr (h.0, (let P : ℕ → Type 0 = λ v. T u (get_or numbers v 0) in subst P same h.1.takes))
    ]),
  )

  pub next_taken : (i : ℕ) (a b : Option ℕ) → IsFirstNumber (λ u. U u × IsTakenBelow T numbers i u) a →
      IsFirstNumber (λ u. U u × T u (get_or numbers i 0)) b → IsFirstNumber (λ u. U u × IsTakenBelow T numbers (i + 1) u) (earlier a b)
  next_taken i a b h g =
      first_as (λ u. (U u × IsTakenBelow T numbers i u) ⊎ (U u × T u (get_or numbers i 0))) (λ u. U u × IsTakenBelow T numbers (i + 1) u) (earlier a b)
      (one_more_taken i) (earlier_first (λ u. U u × IsTakenBelow T numbers i u) (λ u. U u × T u (get_or numbers i 0)) a b h g)

  pub all_taken : (i : ℕ) (a : Option ℕ) → length numbers ≤ i → ((u c : ℕ) → T u c → (j : ℕ) × (j < length numbers) × (get_or numbers j 0 ≡ c)) →
      IsFirstNumber (λ u. U u × IsTakenBelow T numbers i u) a → IsFirstNumber (λ u. U u × ((c : ℕ) × T u c)) a
  all_taken i a all listed h =
      first_as (λ u. U u × IsTakenBelow T numbers i u) (λ u. U u × ((c : ℕ) × T u c)) a
      (λ u. (
        (λ k. (k.0, (get_or numbers k.1.place 0, k.1.takes))),
        (λ k.
            let at = listed u k.1.0 k.1.1 in
            let P : ℕ → Type 0 = λ v. T u v in
            (k.0, record { place = at.0; before = (let lt : at.0 < length numbers = at.1 in omega arith); takes = subst P (sym at.2) k.1.1 })),
      )) h

pub not_after_trans : (p q r : Position) → IsNotAfter p q → IsNotAfter q r → IsNotAfter p r
not_after_trans p q r (inl a) (inl b) = inl (omega arith)
not_after_trans p q r (inl a) (inr b) = inl (let P : ℕ → Type 0 = λ v. p.file < v in subst P b.0 a)
not_after_trans p q r (inr a) (inl b) = inl (let P : ℕ → Type 0 = λ v. v < r.file in subst P (sym a.0) b)
not_after_trans p q r (inr a) (inr b) = inr (a.0 ∙ b.0, (let x = a.1 in let y = b.1 in omega arith))

-- by position: what stands behind an identifier that does not stand before a position, and what stands before one that does
module _ (l : Layout) (size : ℕ) (order : InPlaceOrder l size) (numbers : List ℕ) (inside : (i : ℕ) → i < length numbers → get_or numbers i 0 < size)
    (ascending : (i j : ℕ) → i < j → j < length numbers → get_or numbers i 0 < get_or numbers j 0) (start : Position) where
  pub behind_middle : (m : ℕ) → m < length numbers → IsNotAfter start (l.place (get_or numbers m 0)) → (i : ℕ) → m ≤ i → i < length numbers →
      IsNotAfter start (l.place (get_or numbers i 0))
  behind_middle m there not i le within = elim (cases_lt m i) [
    | inl lt ↦ not_after_trans start (l.place (get_or numbers m 0)) (l.place (get_or numbers i 0)) not
        (order.rising (get_or numbers m 0) (get_or numbers i 0) (ascending m i lt within) (inside i within))
    | inr ge ↦
        let same : m ≡ i = omega arith in
        let P : ℕ → Type 0 = λ v. IsNotAfter start (l.place (get_or numbers v 0)) in
        subst P same not
  ]

  pub before_middle : (m : ℕ) → m < length numbers → (IsNotAfter start (l.place (get_or numbers m 0)) → ⊥) → (i : ℕ) → i < m + 1 →
      IsNotAfter start (l.place (get_or numbers i 0)) → ⊥
  before_middle m there before i lt not = elim (cases_lt i m) [
    | inl less ↦ before (not_after_trans start (l.place (get_or numbers i 0)) (l.place (get_or numbers m 0)) not
        (order.rising (get_or numbers i 0) (get_or numbers m 0) (ascending i m less there) (inside m there)))
    | inr ge ↦
        let same : i ≡ m = omega arith in
        let P : ℕ → Type 0 = λ v. IsNotAfter start (l.place (get_or numbers v 0)) in
        before (subst P same not)
  ]

-- a position at which the scope of a declaration begins: it holds all positions from there up to each one that it holds
pub record BeginsScope (l : Layout) (c : ℕ) (start : Position) : Type 0 where
  pub first : (q : Position) → Holds (scope_of (l.role c)) q → IsNotAfter start q
  pub whole : (p q : Position) → Holds (scope_of (l.role c)) q → IsNotAfter start p → IsNotAfter p q → Holds (scope_of (l.role c)) p

-- the first n listed identifiers, and no others, stand before a position
pub record CountsBefore (l : Layout) (uses : List ℕ) (start : Position) (n : ℕ) : Type 0 where
  pub before : (i : ℕ) → i < n → IsNotAfter start (l.place (get_or uses i 0)) → ⊥
  pub behind : (i : ℕ) → n ≤ i → i < length uses → IsNotAfter start (l.place (get_or uses i 0))

pub below_other : (n m k : ℕ) → n ≤ m → k ≡ m → (n ≡ k → ⊥) → n < m
below_other n m k le is other = elim (cases_lt n m) [ inl lt ↦ lt | inr ge ↦ absurd (other (let same : n ≡ m = omega arith in same ∙ sym is)) ]

-- by position: the first use that does not stand before the beginning of a scope is the first that can stand in it
module _ (l : Layout) (size : ℕ) (order : InPlaceOrder l size) (U : ℕ → Type 0) (uses : List ℕ) (listed : ListsNumbers U size uses) (c : ℕ)
    (start : Position) (begins : BeginsScope l c start) (n : ℕ) (counts : CountsBefore l uses start n) (inside : (u : ℕ) → U u → u < size) where
  -- a use in the scope stands at the place n or behind it
  in_scope_from : (u : ℕ) → u < size → U u → InScope l c u → (i : ℕ) × (n ≤ i) × (i < length uses) × (get_or uses i 0 ≡ u)
  in_scope_from u within k holds =
      let at = place_of U size uses listed u within k in
      let P : ℕ → Type 0 = λ v. IsNotAfter start (l.place v) in
      elim (cases_lt at.0 n) [
        | inl lt ↦ absurd (counts.before at.0 lt (subst P (sym at.2) (begins.first (l.place u) holds)))
        | inr ge ↦ (at.0, ge, at.1, at.2)
      ]

  pub none_behind : length uses ≤ n → IsFirstNumber (λ u. U u × InScope l c u) None
  none_behind past u h =
      let at = in_scope_from u (inside u h.0) h.0 h.1 in
      let le : n ≤ at.0 = at.1 in
      let lt : at.0 < length uses = at.2 in
      omega arith

  -- from a use in the scope on, back to the first that does not stand before the scope
  first_too : n < length uses → (u : ℕ) → u < size → U u → InScope l c u → InScope l c (get_or uses n 0)
  first_too there u within k holds =
      let at = in_scope_from u within k holds in
      let P : ℕ → Type 0 = λ v. InScope l c v in
      elim (cases_lt n at.0) [
        | inl lt ↦
            let rising = order.rising (get_or uses n 0) (get_or uses at.0 0) (listed.ascending n at.0 lt at.2) (at_place U size uses listed at.0 at.2).0 in
            let Q : ℕ → Type 0 = λ v. IsNotAfter (l.place (get_or uses n 0)) (l.place v) in
            begins.whole (l.place (get_or uses n 0)) (l.place u) holds (counts.behind n (omega arith) there) (subst Q at.3 rising)
        | inr ge ↦
            let le : n ≤ at.0 = at.1 in
            let same : at.0 ≡ n = omega arith in
            let R : ℕ → Type 0 = λ v. get_or uses v 0 ≡ u in
            subst P (sym (subst R same at.3)) holds
      ]

  pub none_in_scope : n < length uses → (InScope l c (get_or uses n 0) → ⊥) → IsFirstNumber (λ u. U u × InScope l c u) None
  none_in_scope there out u h = out (first_too there u (inside u h.0) h.0 h.1)

  pub first_in_scope : n < length uses → InScope l c (get_or uses n 0) → IsFirstNumber (λ u. U u × InScope l c u) (Some (get_or uses n 0))
  first_in_scope there holds = (
    ((at_place U size uses listed n there).1, holds),
    (λ v lt h.
        let at = in_scope_from v (inside v h.0) h.0 h.1 in
        let P : ℕ → Type 0 = λ w. w < get_or uses n 0 in
        let earlier_place : at.0 < n = stands_before U size uses listed n at.0 there at.2 (subst P (sym at.3) lt) in
        let le : n ≤ at.0 = at.1 in
        omega arith),
  )
