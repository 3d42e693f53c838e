-- Lists that are copied item by item.
use Rattle.std.proofs.Common.{ℕ, ◌≡◌, ◌+◌, ◌<◌, suc, List, [], ◌∷◌, ◌++◌, length, take, get_or, ap, sym, ◌∙◌, arith}
use Rattle.std.specs.Prelude.{map}
use Rattle.std.proofs.Math.Seq.{take-suc, take-length}
use Rattle.std.proofs.lemmas.List.{map-append}

pub next_copy : {X Y : Type 0} (f : X → Y) (xs old new : List X) (i : ℕ) (d x : X) → i < length xs → new ≡ old ++ (x ∷ []) → f x ≡ f (get_or xs i d) →
    map f old ≡ map f (take i xs) → map f new ≡ map f (take (i + 1) xs)
next_copy f xs old new i d x lt e is h =
    ap (map f) e ∙ map-append f old (x ∷ []) ∙ ap (λ z. z ++ (f x ∷ [])) h ∙ ap (λ y. map f (take i xs) ++ (y ∷ [])) is ∙
    sym (map-append f (take i xs) (get_or xs i d ∷ [])) ∙
    sym (ap (map f) (take-suc xs i d lt)) ∙ ap (λ k. map f (take k xs)) (let z : suc i ≡ i + 1 = omega arith in z)

pub all_copied : {X Y : Type 0} (f : X → Y) (xs ys : List X) (i : ℕ) → i ≡ length xs → map f ys ≡ map f (take i xs) → map f ys ≡ map f xs
all_copied f xs ys i e h = h ∙ ap (λ k. map f (take k xs)) e ∙ ap (map f) (take-length xs)
