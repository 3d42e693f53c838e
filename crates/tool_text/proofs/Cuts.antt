-- The first part of a text, and the others.
use Rattle.std.proofs.Common.{◌≡◌, ◌∙◌, ◌+◌, ◌-◌, ◌<◌, ◌≤◌, ◌==◌, ℕ, Bool, true, false, List, []}
use Rattle.std.proofs.Common.{◌∷◌, length, length-drop, take, drop, refl, sym, ap, arith, zero, suc, Option, None, Some}
use Rattle.std.specs.Borrow.{Bor}
use Rattle.std.specs.List.{onto_first, position_or_len}
use Rattle.tool_text.specs.Parts.{parts, parts_left}

-- how long what is left is, and one more, or nothing where nothing is left
abbrev pub left_len : Option (Bor (List ℕ)) → ℕ
left_len None = 0
left_len (Some rest) = length rest.now + 1

module _ (mark : ℕ) where
  abbrev pub place : List ℕ → ℕ
  place = position_or_len (λ byte. byte == mark)

  onto : (x : ℕ) (part : List ℕ) (others : List (List ℕ)) → onto_first x (part ∷ others) ≡ (x ∷ part) ∷ others
  onto x part others = refl

  step_no : (x : ℕ) (xs : List ℕ) → (x == mark) ≡ false → (place (x ∷ xs) ≡ 1 + place xs) × (parts mark (x ∷ xs) ≡ onto_first x (parts mark xs))
  step_no x xs e = (rw e refl, rw e refl)

  step_yes : (x : ℕ) (xs : List ℕ) → (x == mark) ≡ true → (place (x ∷ xs) ≡ 0) × (parts mark (x ∷ xs) ≡ [] ∷ parts mark xs)
  step_yes x xs e = (rw e refl, rw e refl)

  -- what the first part is, by the rest
  abbrev CutsAt : List ℕ → ℕ → Type 0
  CutsAt xs n = parts mark xs ≡ take n xs ∷ parts mark (drop (suc n) xs)

  cut_case : (x : ℕ) (xs : List ℕ) (n : ℕ) (b : Bool) → (x == mark) ≡ b → n ≡ place (x ∷ xs) → n < length (x ∷ xs)
      → (place xs < length xs → CutsAt xs (place xs)) → CutsAt (x ∷ xs) n
  cut_case x xs n true alike e h rest = let s = step_yes x xs alike in let zero_is : n ≡ 0 = e ∙ s.0 in rw zero_is (s.1)
  cut_case x xs n false unlike e h rest =
      let s = step_no x xs unlike in
      let more : n ≡ suc (place xs) = omega (arith, e, s.0) in
      let low : place xs < length xs = omega (arith, more, h) in
      rw more (s.1 ∙ ap (onto_first x) (rest low))

  cut_at : (xs : List ℕ) (n : ℕ) → n ≡ place xs → n < length xs → CutsAt xs n
  cut_at [] n e h = absurd (omega (arith, h))
  cut_at (x ∷ xs) n e h = cut_case x xs n (x == mark) refl e h (λ low. cut_at xs (place xs) refl low)

  none_case : (x : ℕ) (xs : List ℕ) (b : Bool) → (x == mark) ≡ b → length (x ∷ xs) ≤ place (x ∷ xs) → (length xs ≤ place xs → parts mark xs ≡ xs ∷ [])
      → parts mark (x ∷ xs) ≡ (x ∷ xs) ∷ []
  none_case x xs true alike h rest = let s = step_yes x xs alike in absurd (omega (arith, s.0, h))
  none_case x xs false unlike h rest =
      let s = step_no x xs unlike in
      let low : length xs ≤ place xs = omega (arith, s.0, h) in
      s.1 ∙ ap (onto_first x) (rest low)

  -- where it has none, there is one part
  pub cut_none : (xs : List ℕ) → length xs ≤ place xs → parts mark xs ≡ xs ∷ []
  cut_none [] h = refl
  cut_none (x ∷ xs) h = none_case x xs (x == mark) refl h (λ low. cut_none xs low)

-- a list is what any number of its elements make that is not less than all
pub whole_before : (xs : List ℕ) (n : ℕ) → length xs ≤ n → xs ≡ take n xs
whole_before [] zero h = refl
whole_before [] (suc n) h = refl
whole_before (x ∷ xs) zero h = absurd (omega (arith, h))
whole_before (x ∷ xs) (suc n) h = ap (λ l. x ∷ l) (whole_before xs n (omega (arith, h)))

-- a slice from a place on
pub tail_is : (k : ℕ) (xs : List ℕ) → drop k xs ≡ take (length xs - k) (drop k xs)
tail_is k xs = let len : length (drop k xs) ≡ length xs - k = length-drop k xs in whole_before (drop k xs) (length xs - k) (omega (arith, len))

-- where the text has the mark, the first part ends there
pub cut_there : (mark : ℕ) (xs : List ℕ) (n : ℕ) → n ≡ place mark xs → n < length xs
    → parts mark xs ≡ take n xs ∷ parts mark (take (length xs - (n + 1)) (drop (n + 1) xs))
cut_there mark xs n e h =
    let next : suc n ≡ n + 1 = omega arith in
    let same : drop (suc n) xs ≡ take (length xs - (n + 1)) (drop (n + 1) xs) = ap (λ k. drop k xs) next ∙ tail_is (n + 1) xs in
    cut_at mark xs n e h ∙ ap (λ l. take n xs ∷ parts mark l) same

-- what follows the first part
pub others_of : (mark : ℕ) (text stem part : List ℕ) (rest : Option (Bor (List ℕ))) (f : List (List ℕ) → List ℕ) → stem ≡ text
    → parts mark stem ≡ part ∷ parts_left mark rest → f (drop 1 (parts mark text)) ≡ f (parts_left mark rest)
others_of mark text stem part rest f e h = ap (λ t. f (drop 1 (parts mark t))) (sym e) ∙ ap (λ l. f (drop 1 l)) h
