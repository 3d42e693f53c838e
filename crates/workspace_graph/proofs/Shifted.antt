-- The numbers of packages after one was inserted, and increasing lists split below a number.
use Rattle.std.proofs.Common.{◌≡◌, ℕ, ◌+◌, ◌-◌, ◌<◌, ◌≤◌, ◌⊎◌, List, [], ◌∷◌, ◌++◌, length, map, take, drop, get_or, Some, slice_get, refl, sym}
use Rattle.std.proofs.Common.{ap, subst, ◌∙◌, inl, inr, ⊎_elim, arith, append_assoc}
use Rattle.std.specs.List.{Contains, insert}
use Rattle.std.specs.List.Sorted.{IsPermutation, IsStrictlyIncreasing}
use Rattle.std.proofs.lemmas.Bool.{cases_lt, cond_above, cond_below}
use Rattle.std.proofs.lemmas.List.{get_or-map, length-map, drop-map, take-map}
use Rattle.std.proofs.lemmas.List.Edits.{get_or-insert_above, get_or-insert_at, get_or-insert_below, length-insert}
use Rattle.std.proofs.lemmas.List.Elements.{Contains-get_or}
use Rattle.std.proofs.lemmas.List.Sorted.{Contains-permutation, IsPermutation-insert, IsPermutation-sym}
use Rattle.std.proofs.lemmas.Option.{get_or_from_slice_get, slice_get-get_or, slice_get_past}
use Rattle.base_lemmas.proofs.Elements.{first_in, first_or_later, later_in}
use Rattle.workspace_graph.specs.Shifts.{Splits, ShiftsRow, row_shifted, shifted}
use Rattle.workspace_graph.proofs.OrderedPackages.{rising_by}

-- ---- one number
pub shifted_below : (place q : ℕ) → q < place → shifted place q ≡ q
shifted_below place q h = sym (cond_below q place q (q + 1) h)

pub shifted_above : (place q : ℕ) → place ≤ q → shifted place q ≡ q + 1
shifted_above place q h = sym (cond_above q place q (q + 1) (q + 1) h refl)

pub shifted_rises : (place a b : ℕ) → a < b → shifted place a < shifted place b
shifted_rises place a b h = ⊎_elim
    (λ (below : b < place).
    let f = shifted_below place a (omega (arith, h, below)) in let s = shifted_below place b below in omega (arith, f, s, h))
    (λ (above : place ≤ b).
    let s = shifted_above place b above in
    ⊎_elim
    (λ (l : a < place). let f = shifted_below place a l in omega (arith, f, s, h))
    (λ (g : place ≤ a). let f = shifted_above place a g in omega (arith, f, s, h))
    (cases_lt a place))
    (cases_lt b place)

pub shifted_one : (place a b : ℕ) → shifted place a ≡ shifted place b → a ≡ b
shifted_one place a b same = ⊎_elim
    (λ (l : a < b). let less = shifted_rises place a b l in absurd (omega (arith, less, same)))
    (λ (g : b ≤ a). ⊎_elim
    (λ (l : b < a). let less = shifted_rises place b a l in absurd (omega (arith, less, same)))
    (λ (e : a ≤ b). let is : a ≡ b = omega (arith, g, e) in is)
    (cases_lt b a))
    (cases_lt a b)

pub shifted_apart : (place a : ℕ) → shifted place a ≡ place → ⊥
shifted_apart place a same = ⊎_elim
    (λ (l : a < place). let e = shifted_below place a l in omega (arith, e, same, l))
    (λ (g : place ≤ a). let e = shifted_above place a g in omega (arith, e, same, g))
    (cases_lt a place)

-- a number is the place or a shifted one
pub shifted_cases : (place j : ℕ) → (j ≡ place) ⊎ ((i : ℕ) × (shifted place i ≡ j))
shifted_cases place j = ⊎_elim
    (λ (h : j < place). inr (j, shifted_below place j h))
    (λ (h : place ≤ j). ⊎_elim
    (λ (l : place < j). let e : j - 1 + 1 ≡ j = omega (arith, l) in inr (j - 1, shifted_above place (j - 1) (omega (arith, l)) ∙ e))
    (λ (g : j ≤ place). let e : j ≡ place = omega (arith, h, g) in inl e)
    (cases_lt place j))
    (cases_lt j place)

pub shifted_within : (place q n : ℕ) → place ≤ n → shifted place q < n + 1 → q < n
shifted_within place q n place_within h = ⊎_elim
    (λ (l : q < place). omega (arith, l, place_within))
    (λ (g : place ≤ q). let e = shifted_above place q g in omega (arith, e, h))
    (cases_lt q place)

pub shifted_past : (place q n : ℕ) → place ≤ n → n ≤ q → n + 1 ≤ shifted place q
shifted_past place q n place_within h = let e = shifted_above place q (omega (arith, h, place_within)) in omega (arith, e, h)

pub before_below : (place number : ℕ) → (number ≡ place → ⊥) → number < place → shifted place number ≡ number
before_below place number apart h = shifted_below place number h

pub before_above : (place number : ℕ) → (number ≡ place → ⊥) → place ≤ number → shifted place (number - 1) ≡ number
before_above place number apart h = ⊎_elim
    (λ (l : place < number). let e : number - 1 + 1 ≡ number = omega (arith, l) in shifted_above place (number - 1) (omega (arith, l)) ∙ e)
    (λ (g : number ≤ place). let e : number ≡ place = omega (arith, h, g) in absurd (apart e))
    (cases_lt place number)

-- ---- a row
pub shifted_in : (place : ℕ) (row : List ℕ) (i : ℕ) → Contains row i → Contains (row_shifted place row) (shifted place i)
shifted_in place row i h =
    let size = length-map row (shifted place) in (
      h.0,
      omega (arith, h.1, size),
      get_or-map (shifted place) row h.0 i (shifted place i) h.1 ∙ ap (shifted place) h.2,
    )

pub shifted_from : (place : ℕ) (row : List ℕ) (j : ℕ) → Contains (row_shifted place row) j → (i : ℕ) × Contains row i × (shifted place i ≡ j)
shifted_from place row j h =
    let size = length-map row (shifted place) in
    let lt : h.0 < length row = omega (arith, h.1, size) in
    (get_or row h.0 0, Contains-get_or row h.0 0 lt, sym (get_or-map (shifted place) row h.0 0 j lt) ∙ h.2)

pub rising_shifted : (place : ℕ) (row : List ℕ) → IsStrictlyIncreasing row → IsStrictlyIncreasing (row_shifted place row)
rising_shifted place row up k h =
    let size = length-map row (shifted place) in
    let next : k + 1 < length row = omega (arith, h, size) in
    let f = get_or-map (shifted place) row k 0 0 (omega (arith, next)) in
    let s = get_or-map (shifted place) row (k + 1) 0 0 next in
    omega (arith, f, s, shifted_rises place (get_or row k 0) (get_or row (k + 1) 0) (up k next))

-- a number put where it stands in order
rising_insert : (xs : List ℕ) (b x : ℕ) → IsStrictlyIncreasing xs → b ≤ length xs → ((k : ℕ) → k < b → get_or xs k 0 < x) →
    ((k : ℕ) → b ≤ k → k < length xs → x < get_or xs k 0) → IsStrictlyIncreasing (insert xs b x)
rising_insert xs b x up within below above k h =
    let size = length-insert xs b x within in
    ⊎_elim
    (λ (l : k < b).
    let here = get_or-insert_below xs b x 0 k l within in
    ⊎_elim
    (λ (m : k + 1 < b).
    let next = get_or-insert_below xs b x 0 (k + 1) m within in
    omega (arith, here, next, up k (omega (arith, m, within))))
    (λ (m : b ≤ k + 1).
    let e : b ≡ k + 1 = omega (arith, l, m) in
    let next = ap (λ n. get_or (insert xs b x) n 0) (sym e) ∙ get_or-insert_at xs b x 0 within in
    omega (arith, here, next, below k l))
    (cases_lt (k + 1) b))
    (λ (g : b ≤ k).
    let next = get_or-insert_above xs b x 0 k g within in
    let inside : k < length xs = omega (arith, h, size) in
    ⊎_elim
    (λ (m : b < k).
    let e : k - 1 + 1 ≡ k = omega (arith, m) in
    let here = ap (λ n. get_or (insert xs b x) n 0) (sym e) ∙ get_or-insert_above xs b x 0 (k - 1) (omega (arith, m)) within in
    let step = up (k - 1) (omega (arith, m, inside)) in
    let same = ap (λ n. get_or xs n 0) e in
    omega (arith, here, next, step, same))
    (λ (m : k ≤ b).
    let e : k ≡ b = omega (arith, g, m) in
    let here = ap (λ n. get_or (insert xs b x) n 0) e ∙ get_or-insert_at xs b x 0 within in
    omega (arith, here, next, above k g inside))
    (cases_lt b k))
    (cases_lt k b)

pub shifts_without : (place : ℕ) (P : Type 0) (before : List ℕ) → (P → ⊥) → ShiftsRow place P before (row_shifted place before)
shifts_without place P before not = record {
  each = λ p. (
    λ has. inr has,
    λ either. ⊎_elim (λ (own : (p ≡ place) × P). absurd (not own.1)) (λ (has : Contains (row_shifted place before) p). has) either,
  );
  rising = rising_shifted place before;
}

pub shifts_with : (place : ℕ) (P : Type 0) (before : List ℕ) (below : ℕ) → P → below ≤ length before →
    ((k : ℕ) → k < below → get_or before k 0 < place) → (below < length before → place ≤ get_or before below 0) →
    ShiftsRow place P before (insert (row_shifted place before) below place)
shifts_with place P before below holds within under over = record {
  each = λ p. (
    λ has. ⊎_elim
        (λ (here : place ≡ p). inl (sym here, holds))
        (λ (later : Contains xs p). inr later)
        (first_or_later place xs p
        (Contains-permutation (insert xs below place) (place ∷ xs) p (IsPermutation-sym (place ∷ xs) (insert xs below place) same) has)),
    λ either. Contains-permutation (place ∷ xs) (insert xs below place) p same (⊎_elim
        (λ (own : (p ≡ place) × P). subst (Contains (place ∷ xs)) (sym own.0) (first_in place xs))
        (λ (has : Contains xs p). later_in place xs p has)
        either),
  );
  rising = λ up. rising_insert xs below place (rising_shifted place before up) (omega (arith, within, size))
      (λ k h.
      let lt : k < length before = omega (arith, h, within) in
      let here = get_or-map (shifted place) before k 0 0 lt in
      let e = shifted_below place (get_or before k 0) (under k h) in
      omega (arith, here, e, under k h))
      (λ k h inside.
      let lt : k < length before = omega (arith, inside, size) in
      let here = get_or-map (shifted place) before k 0 0 lt in
      let least = from up k h lt in
      let e = shifted_above place (get_or before k 0) least in
      omega (arith, here, e, least));
}
  where
    xs : List ℕ
    xs = row_shifted place before

    size : length xs ≡ length before
    size = length-map before (shifted place)

    same : IsPermutation (place ∷ xs) (insert xs below place)
    same = IsPermutation-insert xs below place

    from : IsStrictlyIncreasing before → (k : ℕ) → below ≤ k → k < length before → place ≤ get_or before k 0
    from up k h lt = ⊎_elim
        (λ (l : below < k).
        let first = over (omega (arith, l, lt)) in
        let less = rising_by before up (k - (below + 1)) below k (omega (arith, l)) lt in
        omega (arith, first, less))
        (λ (g : k ≤ below).
        let e : k ≡ below = omega (arith, h, g) in
        let same_at = ap (λ n. get_or before n 0) e in
        omega (arith, over (omega (arith, e, lt)), same_at))
        (cases_lt below k)

-- ---- the elements of a list after an insertion
pub insert_shifted : {X : Type 0} (ks : List X) (place : ℕ) (path : X) (q : ℕ) → place ≤ length ks →
    slice_get (insert ks place path) (shifted place q) ≡ slice_get ks q
insert_shifted ks place path q within =
    let size = length-insert ks place path within in
    ⊎_elim
    (λ (l : q < place).
    let to = ap (slice_get (insert ks place path)) (shifted_below place q l) in
    to ∙ slice_get-get_or (insert ks place path) q path (omega (arith, l, within, size))
    ∙ ap Some (get_or-insert_below ks place path path q l within) ∙ sym (slice_get-get_or ks q path (omega (arith, l, within))))
    (λ (g : place ≤ q).
    let to = ap (slice_get (insert ks place path)) (shifted_above place q g) in
    ⊎_elim
    (λ (inside : q < length ks).
    to ∙ slice_get-get_or (insert ks place path) (q + 1) path (omega (arith, inside, size))
    ∙ ap Some (get_or-insert_above ks place path path q g within) ∙ sym (slice_get-get_or ks q path inside))
    (λ (past : length ks ≤ q).
    to ∙ slice_get_past (insert ks place path) (q + 1) (omega (arith, past, size)) ∙ sym (slice_get_past ks q past))
    (cases_lt q (length ks)))
    (cases_lt q place)

pub insert_here : {X : Type 0} (ks : List X) (place : ℕ) (path : X) → place ≤ length ks → slice_get (insert ks place path) place ≡ Some path
insert_here ks place path within =
    let size = length-insert ks place path within in
    slice_get-get_or (insert ks place path) place path (omega (arith, within, size)) ∙ ap Some (get_or-insert_at ks place path path within)

-- ---- lists that are passed
pub passed_none : (list : List ℕ) → Splits list 0 0
passed_none list = record {
  within = omega arith;
  below = λ k h. absurd (omega (arith, h));
  above = λ k h lt. omega arith;
}

pub passed_yes : (list : List ℕ) (index number : ℕ) → IsStrictlyIncreasing list → Splits list index number → index < length list →
    get_or list index 0 ≡ number → Splits list (index + 1) (number + 1)
passed_yes list index number up so lt is = record {
  within = omega (arith, lt);
  below = λ k h. ⊎_elim
      (λ (l : k < index). omega (arith, so.below k l))
      (λ (g : index ≤ k).
      let e : k ≡ index = omega (arith, h, g) in
      let same = ap (λ n. get_or list n 0) e in
      omega (arith, same, is))
      (cases_lt k index);
  above = λ k h inside.
      let less = rising_by list up (k - (index + 1)) index k (omega (arith, h)) inside in
      omega (arith, less, is);
}

pub passed_no : (list : List ℕ) (index number : ℕ) → IsStrictlyIncreasing list → Splits list index number →
    (index < length list → get_or list index 0 ≡ number → ⊥) → Splits list index (number + 1)
passed_no list index number up so not = record {
  within = so.within;
  below = λ k h. omega (arith, so.below k h);
  above = λ k h inside.
      let first : index < length list = omega (arith, h, inside) in
      let least = so.above index (omega arith) first in
      ⊎_elim
      (λ (l : number < get_or list index 0). ⊎_elim
      (λ (m : index < k).
      let less = rising_by list up (k - (index + 1)) index k (omega (arith, m)) inside in
      omega (arith, less, l))
      (λ (m : k ≤ index).
      let e : k ≡ index = omega (arith, h, m) in
      let same = ap (λ n. get_or list n 0) e in
      omega (arith, same, l))
      (cases_lt index k))
      (λ (g : get_or list index 0 ≤ number). let e : get_or list index 0 ≡ number = omega (arith, least, g) in absurd (not first e))
      (cases_lt number (get_or list index 0));
}

-- what was not passed and does not stand there is not in the list
pub passed_none_in : (list : List ℕ) (index number : ℕ) → Splits list index (number + 1) → Splits list index number → Contains list number → ⊥
passed_none_in list index number after so has = ⊎_elim
    (λ (l : has.0 < index).
    let is = same_at has in
    let less = so.below has.0 l in
    absurd (omega (arith, is, less)))
    (λ (g : index ≤ has.0).
    let is = same_at has in
    let more = after.above has.0 g has.1 in
    absurd (omega (arith, is, more)))
    (cases_lt has.0 index)
  where
    same_at : (h : Contains list number) → get_or list h.0 0 ≡ number
    same_at h = get_or_from_slice_get list h.0 number 0 (slice_get-get_or list h.0 number h.1 ∙ ap Some h.2)

pub passed_one_in : (list : List ℕ) (index number : ℕ) → index < length list → get_or list index 0 ≡ number → Contains list number
passed_one_in list index number lt is = subst (Contains list) is (Contains-get_or list index 0 lt)

-- a list that is passed further, up to what comes next in it
pub passed_to : (list : List ℕ) (index number stop : ℕ) → IsStrictlyIncreasing list → Splits list index number → number ≤ stop →
    (index < length list → stop ≤ get_or list index 0) → Splits list index stop
passed_to list index number stop up so more next = record {
  within = so.within;
  below = λ k h. omega (arith, so.below k h, more);
  above = λ k h inside.
      let first = next (omega (arith, h, inside)) in
      ⊎_elim
      (λ (m : index < k).
      let less = rising_by list up (k - (index + 1)) index k (omega (arith, m)) inside in
      omega (arith, less, first))
      (λ (m : k ≤ index).
      let e : k ≡ index = omega (arith, h, m) in
      let same = ap (λ n. get_or list n 0) e in
      omega (arith, same, first))
      (cases_lt index k);
}

-- no number between is in it
pub passed_over : (list : List ℕ) (index number stop m : ℕ) → Splits list index number → Splits list index stop → number ≤ m → m < stop →
    Contains list m → ⊥
passed_over list index number stop m so after low high has = ⊎_elim
    (λ (l : has.0 < index).
    let is = same_at has in
    let less = so.below has.0 l in
    absurd (omega (arith, is, less, low)))
    (λ (g : index ≤ has.0).
    let is = same_at has in
    let more = after.above has.0 g has.1 in
    absurd (omega (arith, is, more, high)))
    (cases_lt has.0 index)
  where
    same_at : (h : Contains list m) → get_or list h.0 0 ≡ m
    same_at h = get_or_from_slice_get list h.0 m 0 (slice_get-get_or list h.0 m h.1 ∙ ap Some h.2)

-- ---- numbers that were added one part after another
pub added_around : (place below : ℕ) (old row first rest one two new : List ℕ) → first ≡ take below row → rest ≡ drop below row →
    one ≡ old ++ row_shifted place first → two ≡ one ++ place ∷ [] → new ≡ two ++ row_shifted place rest →
    new ≡ old ++ insert (row_shifted place row) below place
added_around place below old row first rest one two new front back is_one is_two is_new =
    let f = shifted place in
    let a : row_shifted place first ≡ take below (map f row) = ap (map f) front ∙ sym (take-map f below row) in
    let b : row_shifted place rest ≡ drop below (map f row) = ap (map f) back ∙ sym (drop-map f below row) in
    is_new ∙ ap (λ (l : List ℕ). l ++ map f rest) (is_two ∙ ap (λ (l : List ℕ). l ++ place ∷ []) (is_one ∙ ap (λ (l : List ℕ). old ++ l) a))
    ∙ ap (λ (l : List ℕ). ((old ++ take below (map f row)) ++ place ∷ []) ++ l) b
    ∙ append_assoc (old ++ take below (map f row)) (place ∷ []) (drop below (map f row))
    ∙ append_assoc old (take below (map f row)) (place ∷ drop below (map f row))
