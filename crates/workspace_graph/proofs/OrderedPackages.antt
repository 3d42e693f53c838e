-- An increasing list of packages to which the next package is added.
use Rattle.std.proofs.Common.{◌≡◌, ℕ, zero, suc, ◌+◌, ◌-◌, ◌<◌, ◌≤◌, List, [], ◌∷◌, ◌++◌, length, get_or, refl, sym, ap, subst, ◌∙◌, ⊎_elim, arith}
use Rattle.std.specs.List.{Contains}
use Rattle.std.specs.List.Sorted.{IsStrictlyIncreasing}
use Rattle.std.proofs.lemmas.Bool.{cases_lt}
use Rattle.std.proofs.lemmas.List.{get_or_append_left, get_or_default, get_or_push, length_push}
use Rattle.std.proofs.lemmas.List.Elements.{Contains-get_or, Contains-push, Contains-push_cases, Contains-append_left}
use Rattle.workspace_graph.specs.Imports.{ListsBelow}

-- an earlier number is below a later one
pub rising_by : (list : List ℕ) → IsStrictlyIncreasing list → (d k j : ℕ) → j ≡ k + d + 1 → j < length list → get_or list k 0 < get_or list j 0
rising_by list up zero k j e h =
    let next : k + 1 ≡ j = omega arith in
    let step : get_or list (k + 1) 0 ≡ get_or list j 0 = ap (λ i. get_or list i 0) next in
    omega (arith, up k (omega arith), step)
rising_by list up (suc d) k j e h =
    let before = rising_by list up d k (k + d + 1) refl (omega arith) in
    let next : k + d + 1 + 1 ≡ j = omega arith in
    let step : get_or list (k + d + 1 + 1) 0 ≡ get_or list j 0 = ap (λ i. get_or list i 0) next in
    omega (arith, before, up (k + d + 1) (omega arith), step)

-- all before the last are below it
pub below_last : (list : List ℕ) (n q : ℕ) → IsStrictlyIncreasing (list ++ n ∷ []) → Contains list q → q < n
below_last list n q up c =
    let l = length_push list n in
    let here = get_or_append_left list (n ∷ []) 0 c.0 c.1 in
    let at : get_or list c.0 0 ≡ q = get_or_default list c.0 0 q c.1 ∙ c.2 in
    let last = get_or_push list n 0 (length list) (omega arith) in
    let less = rising_by (list ++ n ∷ []) up (length list - (c.0 + 1)) c.0 (length list) (omega (arith, c.1)) (omega (arith, l)) in
    omega (arith, less, here, at, last)

-- without the last they rise too
pub rising_front : (list : List ℕ) (n : ℕ) → IsStrictlyIncreasing (list ++ n ∷ []) → IsStrictlyIncreasing list
rising_front list n up k h =
    let l = length_push list n in
    let here = get_or_append_left list (n ∷ []) 0 k (omega arith) in
    let next = get_or_append_left list (n ∷ []) 0 (k + 1) h in
    omega (arith, up k (omega (arith, l)), here, next)

-- a number above all at the end
pub rising_push : (list : List ℕ) (n : ℕ) → IsStrictlyIncreasing list → ((q : ℕ) → Contains list q → q < n) → IsStrictlyIncreasing (list ++ n ∷ [])
rising_push list n up below k h =
    let l = length_push list n in
    ⊎_elim
    (λ (b : k + 1 < length list).
    let e = get_or_append_left list (n ∷ []) 0 k (omega arith) in
    let f = get_or_append_left list (n ∷ []) 0 (k + 1) b in
    omega (arith, up k b))
    (λ (b : length list ≤ k + 1).
    let e = get_or_append_left list (n ∷ []) 0 k (omega arith) in
    let f = get_or_push list n 0 (k + 1) (omega arith) in
    omega (arith, below (get_or list k 0) (Contains-get_or list k 0 (omega arith))))
    (cases_lt (k + 1) (length list))

-- no package yet
pub ListsBelow-none : (P : ℕ → Type 0) (list : List ℕ) → list ≡ [] → ListsBelow P 0 list
ListsBelow-none P list is = subst (ListsBelow P 0) (sym is) (record {
  each = λ q. (λ has. absurd (omega (arith, has.1)), λ w. absurd (omega (arith, w.0)));
  rising = λ k h. absurd (omega (arith, h));
})

-- the next package, of which it holds
pub ListsBelow-yes : (P : ℕ → Type 0) (list : List ℕ) (n : ℕ) → ListsBelow P n list → P n → ListsBelow P (n + 1) (list ++ n ∷ [])
ListsBelow-yes P list n h p =
    record {
      each = λ q. (
        λ c. ⊎_elim
            (λ (o : Contains list q). let w = (h.each q).0 o in (omega (arith, w.0), w.1))
            (λ (e : n ≡ q). (omega arith, subst P e p))
            (Contains-push_cases list n q c),
        λ w. ⊎_elim
            (λ (b : q < n). Contains-append_left list (n ∷ []) q ((h.each q).1 (b, w.1)))
            (λ (b : n ≤ q). let same : n ≡ q = omega (arith, w.0) in subst (λ (k : ℕ). Contains (list ++ n ∷ []) k) same (Contains-push list n))
            (cases_lt q n),
      );
      rising = rising_push list n h.rising (λ q c. ((h.each q).0 c).0);
    }

-- the next package, of which it does not hold
pub ListsBelow-no : (P : ℕ → Type 0) (list : List ℕ) (n : ℕ) → ListsBelow P n list → (P n → ⊥) → ListsBelow P (n + 1) list
ListsBelow-no P list n h fails =
    record {
      each = λ q. (
        λ c. let w = (h.each q).0 c in (omega (arith, w.0), w.1),
        λ w. ⊎_elim
            (λ (b : q < n). (h.each q).1 (b, w.1))
            (λ (b : n ≤ q). let same : q ≡ n = omega (arith, w.0) in absurd (fails (subst P same w.1)))
            (cases_lt q n),
      );
      rising = h.rising;
    }
