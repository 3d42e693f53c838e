-- Blocks of bytes that are compared at a time: no bit of the mask is set exactly where the blocks are equal.
use Rattle.std.proofs.Common.{◌≡◌, ◌↔◌, ℕ, ◌+◌, ◌-◌, ◌*◌, ◌%◌, ◌^◌, ◌≤◌, Bool, true, false, cond, not, eqb, IsTrue, nat_eq, List, []}
use Rattle.std.proofs.Common.{◌∷◌, ◌++◌, map, length, take, drop, sym, refl, ap, ap₂}
use Rattle.std.proofs.Common.{◌∙◌, arith, length-drop, length-take-le, take-append-drop, take-add, take_all, eqb-true, eq-eqb, w8}
use Rattle.std.proofs.lemmas.Simd.{tops_compared, mask_l-mod, length-zip2}
use lib.Lanes.{zip2, mask_l, top}

-- whether two bytes differ
abbrev differ : ℕ → ℕ → Bool
differ x y = not (eqb x y)

-- the mask of two blocks
abbrev mask_of : List ℕ → List ℕ → ℕ
mask_of xs ys = mask_l (map (top 7) (zip2 (λ x y. cond (differ x y) 255 0) xs ys)) % 2 ^ 64

-- of the first bytes, where no bit of the mask is set
no_bit_of_first : (x y mask : ℕ) (xs ys : List ℕ) (same : Bool) → eqb x y ≡ same → cond (not same) 1 0 + 2 * mask ≡ 0 → (mask ≡ 0 → xs ≡ ys) →
    (x ∷ xs) ≡ (y ∷ ys)
no_bit_of_first x y mask xs ys true first none rest = ap₂ (λ z zs. z ∷ zs) (eqb-true x y first) (rest (omega arith))
no_bit_of_first x y mask xs ys false first none rest = absurd (omega arith)

no_bit : (xs ys : List ℕ) → length xs ≡ length ys → mask_l (zip2 differ xs ys) ≡ 0 → xs ≡ ys
no_bit [] [] long none = refl
no_bit [] (y ∷ ys) long none = absurd (omega arith)
no_bit (x ∷ xs) [] long none = absurd (omega arith)
no_bit (x ∷ xs) (y ∷ ys) long none = no_bit_of_first x y (mask_l (zip2 differ xs ys)) xs ys (eqb x y) refl none (no_bit xs ys (omega arith))

no_bit_of_same : (xs : List ℕ) → mask_l (zip2 differ xs xs) ≡ 0
no_bit_of_same [] = refl
no_bit_of_same (x ∷ xs) = ap₂ (λ b m. cond (not b) 1 0 + 2 * m) (eq-eqb x x refl) (no_bit_of_same xs)

mask_is : (xs ys : List ℕ) → length xs ≡ 64 → length ys ≡ 64 → mask_of xs ys ≡ mask_l (zip2 differ xs ys)
mask_is xs ys long too =
    ap (λ bs. mask_l bs % 2 ^ 64) (tops_compared w8 differ xs ys) ∙ mask_l-mod (zip2 differ xs ys) 64 (omega (arith, length-zip2 differ xs ys (long ∙ sym too)))

same_blocks : (xs ys : List ℕ) → length xs ≡ 64 → length ys ≡ 64 → IsTrue (nat_eq (mask_of xs ys) 0) ↔ (xs ≡ ys)
same_blocks xs ys long too = (
  λ none. no_bit xs ys (long ∙ sym too) (sym (mask_is xs ys long too) ∙ eqb-true (mask_of xs ys) 0 none),
  λ same. eq-eqb (mask_of xs ys) 0 (mask_is xs ys long too ∙ ap (λ zs. mask_l (zip2 differ xs zs)) (sym same) ∙ no_bit_of_same xs),
)

block_length : (at : ℕ) (xs : List ℕ) → at + 64 ≤ length xs → length (take 64 (drop at xs)) ≡ 64
block_length at xs within = length-take-le 64 (drop at xs) (omega (arith, length-drop at xs))

-- what the mask of two blocks says
pub mask_of_blocks : (at : ℕ) (xs ys : List ℕ) → at + 64 ≤ length xs → at + 64 ≤ length ys
    → IsTrue (nat_eq (mask_of (take 64 (drop at xs)) (take 64 (drop at ys))) 0) ↔ (take 64 (drop at xs) ≡ take 64 (drop at ys))
mask_of_blocks at xs ys one other = same_blocks _ _ (block_length at xs one) (block_length at ys other)

-- one block more is equal
pub front_and_block : (at : ℕ) (xs ys : List ℕ) → take at xs ≡ take at ys → take 64 (drop at xs) ≡ take 64 (drop at ys) → take (at + 64) xs ≡ take (at + 64) ys
front_and_block at xs ys front block = take-add at 64 xs ∙ ap₂ (λ us vs. us ++ vs) front block ∙ sym (take-add at 64 ys)

rest_is : (at : ℕ) (xs : List ℕ) → take (length xs - at) (drop at xs) ≡ drop at xs
rest_is at xs = take_all (length xs - at) (drop at xs) (omega (arith, length-drop at xs))

-- lists with equal fronts are equal exactly where the rest is
pub front_and_rest : (at : ℕ) (xs ys : List ℕ) → take at xs ≡ take at ys → (take (length xs - at) (drop at xs) ≡ take (length ys - at) (drop at ys)) ↔ (xs ≡ ys)
front_and_rest at xs ys front = (
  λ rest. sym (take-append-drop at xs) ∙ ap₂ (λ us vs. us ++ vs) front (sym (rest_is at xs) ∙ rest ∙ rest_is at ys) ∙ take-append-drop at ys,
  λ same. ap (λ zs. take (length zs - at) (drop at zs)) same,
)
