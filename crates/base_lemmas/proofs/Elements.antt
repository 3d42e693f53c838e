-- The elements of a list.
use Rattle.std.proofs.Common.{zero, suc, ℕ, ◌≡◌, ◌<◌, ◌⊎◌, inl, inr, List, [], ◌∷◌, length, map, refl, ap, subst, ⊎_elim, arith}
use Rattle.std.specs.List.{Contains}

pub nothing_in : {X : Type 0} (x : X) → Contains [] x → ⊥
nothing_in x h = let lt : h.0 < 0 = h.1 in omega arith

pub first_in : {X : Type 0} (x : X) (xs : List X) → Contains (x ∷ xs) x
first_in x xs = (0, omega arith, refl)

pub later_in : {X : Type 0} (x : X) (xs : List X) (y : X) → Contains xs y → Contains (x ∷ xs) y
later_in x xs y h = (suc h.0, (let lt : h.0 < length xs = h.1 in omega arith), h.2)

-- the first, or one behind it
pub first_or_later : {X : Type 0} (x : X) (xs : List X) (y : X) → Contains (x ∷ xs) y → (x ≡ y) ⊎ Contains xs y
first_or_later x xs y (zero, lt, e) = inl e
first_or_later x xs y (suc k, lt, e) = inr (k, omega arith, e)

pub is_mapped : {X Y : Type 0} (f : X → Y) (xs : List X) (x : X) → Contains xs x → Contains (map f xs) (f x)
is_mapped f [] x has = absurd (nothing_in x has)
is_mapped f (z ∷ xs) x has =
    ⊎_elim
    (λ (same : z ≡ x). subst (Contains (map f (z ∷ xs))) (ap f same) (first_in (f z) (map f xs)))
    (λ (later : Contains xs x). later_in (f z) (map f xs) (f x) (is_mapped f xs x later))
    (first_or_later z xs x has)
