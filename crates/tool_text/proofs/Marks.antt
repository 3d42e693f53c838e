-- A text has one first byte of each value.
use Rattle.std.proofs.Common.{◌≡◌, ◌∙◌, ℕ, suc, List, [], ◌∷◌, ◌++◌, refl, ap, arith}
use Rattle.tool_text.specs.Parts.{HasNoByte}

module _ (mark : ℕ) where
  others_too : (x : ℕ) (xs : List ℕ) → HasNoByte mark (x ∷ xs) → HasNoByte mark xs
  others_too x xs h = λ i l. h (suc i) (omega (arith, l))

  pub has_byte : (front back : List ℕ) → HasNoByte mark (front ++ mark ∷ back) → ⊥
  has_byte [] back h = h 0 (omega arith) refl
  has_byte (x ∷ front) back h = has_byte front back (others_too x (front ++ mark ∷ back) h)

  pub halves_unique : (xs ys zs ws : List ℕ) → HasNoByte mark xs → HasNoByte mark zs → xs ++ mark ∷ ys ≡ zs ++ mark ∷ ws → (xs ≡ zs) × (ys ≡ ws)
  halves_unique [] ys [] ws h k e = (refl, cc)
  halves_unique [] ys (z ∷ zs) ws h k e = let first : z ≡ mark = cc in absurd (k 0 (omega arith) first)
  halves_unique (x ∷ xs) ys [] ws h k e = let first : x ≡ mark = cc in absurd (h 0 (omega arith) first)
  halves_unique (x ∷ xs) ys (z ∷ zs) ws h k e =
      let rest : xs ++ mark ∷ ys ≡ zs ++ mark ∷ ws = cc in
      let same : x ≡ z = cc in
      let others = halves_unique xs ys zs ws (others_too x xs h) (others_too z zs k) rest in
      (ap (λ l. x ∷ l) others.0 ∙ ap (λ y. y ∷ zs) same, others.1)
