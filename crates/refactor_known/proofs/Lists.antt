-- Lists whose items are moved one by one.
use Rattle.std.proofs.Common.{ℕ, ◌≡◌, ◌+◌, ◌<◌, suc, List, [], ◌∷◌, ◌++◌, length, take, get_or, map, ap, refl, sym, ◌∙◌, arith}
use Rattle.std.proofs.Math.Seq.{take-suc, take-length}
use Rattle.std.proofs.lemmas.List.{map-append}

-- `f` sees the new items, and `h` says what becomes of the old ones
pub next_moved : {X Y : Type 0} (f h : X → Y) (xs old new : List X) (i : ℕ) (d x : X) → i < length xs → new ≡ old ++ (x ∷ []) →
    f x ≡ h (get_or xs i d) →
    map f old ≡ map h (take i xs) → map f new ≡ map h (take (i + 1) xs)
next_moved f h xs old new i d x lt e is same =
    ap (map f) e ∙ map-append f old (x ∷ []) ∙ ap (λ z. z ++ (f x ∷ [])) same ∙ ap (λ y. map h (take i xs) ++ (y ∷ [])) is ∙
    sym (map-append h (take i xs) (get_or xs i d ∷ [])) ∙
    sym (ap (map h) (take-suc xs i d lt)) ∙ ap (λ k. map h (take k xs)) (let z : suc i ≡ i + 1 = omega arith in z)

twice : {X Y : Type 0} (g : Y → Y) (f : X → Y) (xs : List X) → map g (map f xs) ≡ map (λ x. g (f x)) xs
twice g f [] = refl
twice g f (x ∷ xs) = ap (λ ys. g (f x) ∷ ys) (twice g f xs)

pub all_moved : {X Y : Type 0} (f : X → Y) (g : Y → Y) (xs ys : List X) (i : ℕ) → i ≡ length xs → map f ys ≡ map (λ x. g (f x)) (take i xs) →
    map f ys ≡ map g (map f xs)
all_moved f g xs ys i e h =
    h ∙ ap (λ k. map (λ x. g (f x)) (take k xs)) e ∙ ap (map (λ x. g (f x))) (take-length xs) ∙ sym (twice g f xs)
