-- Ascending lists of numbers, made one number after another.
use Rattle.std.proofs.Common.{ℕ, ◌≡◌, ◌<◌, ◌≤◌, ◌+◌, ◌-◌, inl, inr, List, [], ◌∷◌, ◌++◌, length, get_or, refl, sym, ◌∙◌, subst, arith}
use Rattle.std.specs.List.{Contains}
use Rattle.std.proofs.lemmas.Bool.{cases_lt, cases_order}
use Rattle.std.proofs.lemmas.List.{get_or_default, get_or_append_left, get_or-append_right, length-append}
use Rattle.std.proofs.lemmas.List.Elements.{Contains-push, Contains-push_cases}
use Rattle.base_lemmas.proofs.Elements.{nothing_in}
use Rattle.refactor_scopes.specs.Numbers.{ListsNumbers}

-- what follows a list stands in it behind all of it
pub last_of : (xs : List ℕ) (u j : ℕ) → length xs ≤ j → j < length (xs ++ u ∷ []) → get_or (xs ++ u ∷ []) j 0 ≡ u
last_of xs u j past within =
    let size : length (xs ++ u ∷ []) ≡ length xs + 1 = length-append xs (u ∷ []) in
    let at_end : j ≡ length xs = omega (arith, size, past, within) in
    let P : ℕ → Type 0 = λ v. get_or (xs ++ u ∷ []) v 0 ≡ u in
    subst P (sym at_end) (get_or-append_right xs (u ∷ []) (length xs) (length xs) 0 refl (omega arith) ∙ first_of_rest (length xs) u) where
      first_of_rest : (n u : ℕ) → get_or (u ∷ []) (n - n) 0 ≡ u
      first_of_rest n u = let zero_is : n - n ≡ 0 = omega arith in let P : ℕ → Type 0 = λ v. get_or (u ∷ []) v 0 ≡ u in subst P (sym zero_is) refl

-- a number that was read from a list
pub read_at : (xs : List ℕ) (i x : ℕ) → i < length xs → x ≡ get_or xs i x → x ≡ get_or xs i 0
read_at xs i x within is = is ∙ get_or_default xs i x 0 within

module _ (K : ℕ → Type 0) where
  none : ListsNumbers K 0 []
  none = record {
    ascending = λ i j lt within. absurd (let empty : j < 0 = within in omega arith);
    each = λ u. ((λ has. absurd (nothing_in u has)), (λ h. absurd (let empty : u < 0 = h.0 in omega arith)));
  }

  pub none_listed : (xs : List ℕ) → xs ≡ [] → ListsNumbers K 0 xs
  none_listed xs is = subst (ListsNumbers K 0) (sym is) none

  pub all_listed : (n m : ℕ) (xs : List ℕ) → ListsNumbers K m xs → m ≡ n → ListsNumbers K n xs
  all_listed n m xs h is = let P : ℕ → Type 0 = λ v. ListsNumbers K v xs in subst P is h

  -- a listed number, by its place
  pub at_place : (n : ℕ) (xs : List ℕ) → ListsNumbers K n xs → (i : ℕ) → i < length xs → (get_or xs i 0 < n) × K (get_or xs i 0)
  at_place n xs h i within = (h.each (get_or xs i 0)).0 (i, within, get_or_default xs i (get_or xs i 0) 0 within)

  -- the place of a listed number
  pub place_of : (n : ℕ) (xs : List ℕ) → ListsNumbers K n xs → (u : ℕ) → u < n → K u → (i : ℕ) × (i < length xs) × (get_or xs i 0 ≡ u)
  place_of n xs h u within k =
      let has = (h.each u).1 (within, k) in
      (has.0, has.1, sym (get_or_default xs has.0 u 0 has.1) ∙ has.2)

  -- a lesser number stands before
  pub stands_before : (n : ℕ) (xs : List ℕ) → ListsNumbers K n xs → (i j : ℕ) → i < length xs → j < length xs → get_or xs j 0 < get_or xs i 0 → j < i
  stands_before n xs h i j within inside less = elim (cases_order i j) [
    | inl same ↦
        let P : ℕ → Type 0 = λ v. get_or xs v 0 < get_or xs i 0 in
        let itself : get_or xs i 0 < get_or xs i 0 = subst P (sym same) less in
        absurd (omega arith)
    | inr o ↦ elim o [
      | inl before ↦
          let more : get_or xs i 0 < get_or xs j 0 = h.ascending i j before inside in
          absurd (omega arith)
      | inr behind ↦ behind
    ]
  ]

  -- one number more, of which K does not hold
  pub passed_over : (u : ℕ) (xs : List ℕ) → ListsNumbers K u xs → (K u → ⊥) → ListsNumbers K (u + 1) xs
  passed_over u xs h not = record {
    ascending = h.ascending;
    each = λ v. (
      (λ has. let k = (h.each v).0 has in (omega (arith, k.0), k.1)),
      (λ k. elim (cases_lt v u) [
        | inl less ↦ (h.each v).1 (less, k.1)
        | inr ge ↦
            let same : v ≡ u = omega (arith, k.0, ge) in
            absurd (not (subst K same k.1))
      ]),
    );
  }

  -- one number more, of which K holds
  pub one_more : (u : ℕ) (xs : List ℕ) → ListsNumbers K u xs → K u → ListsNumbers K (u + 1) (xs ++ u ∷ [])
  one_more u xs h k = record {
    ascending = λ i j lt within. elim (cases_lt j (length xs)) [
      | inl inside ↦
          let before : i < length xs = omega (arith, lt, inside) in
          let P : ℕ → Type 0 = λ v. v < get_or (xs ++ u ∷ []) j 0 in
          let Q : ℕ → Type 0 = λ v. get_or xs i 0 < v in
          subst P (sym (get_or_append_left xs (u ∷ []) 0 i before)) (subst Q (sym (get_or_append_left xs (u ∷ []) 0 j inside)) (h.ascending i j lt inside))
      | inr past ↦
          let size : length (xs ++ u ∷ []) ≡ length xs + 1 = length-append xs (u ∷ []) in
          let before : i < length xs = omega (arith, lt, within, size) in
          let P : ℕ → Type 0 = λ v. v < get_or (xs ++ u ∷ []) j 0 in
          let Q : ℕ → Type 0 = λ v. get_or xs i 0 < v in
          subst P (sym (get_or_append_left xs (u ∷ []) 0 i before)) (subst Q (sym (last_of xs u j past within)) (at_place u xs h i before).0)
    ];
    each = λ v. (
      (λ has. elim (Contains-push_cases xs u v has) [
        | inl old ↦ (let o = (h.each v).0 old in (omega (arith, o.0), o.1))
        | inr same ↦ (let P : ℕ → Type 0 = λ z. (z < u + 1) × K z in subst P same (omega arith, k))
      ]),
      (λ o. elim (cases_lt v u) [
        | inl less ↦
            let has = (h.each v).1 (less, o.1) in
            let size : length (xs ++ u ∷ []) ≡ length xs + 1 = length-append xs (u ∷ []) in
            (has.0, (let inside : has.0 < length xs = has.1 in omega (arith, size, inside)), get_or_append_left xs (u ∷ []) v has.0 has.1 ∙ has.2)
        | inr ge ↦
            let same : u ≡ v = omega (arith, o.0, ge) in
            let P : ℕ → Type 0 = λ z. Contains (xs ++ u ∷ []) z in
            subst P same (Contains-push xs u)
      ]),
    );
  }

  pub pushed : (u : ℕ) (old new : List ℕ) → ListsNumbers K u old → K u → new ≡ old ++ u ∷ [] → ListsNumbers K (u + 1) new
  pushed u old new h k is = subst (ListsNumbers K (u + 1)) (sym is) (one_more u old h k)

  pub left_out : (u : ℕ) (old new : List ℕ) → ListsNumbers K u old → (K u → ⊥) → new ≡ old → ListsNumbers K (u + 1) new
  left_out u old new h not is = subst (ListsNumbers K (u + 1)) (sym is) (passed_over u old h not)
