-- Lists, and the loops over them.
use Rattle.std.proofs.Common.{ℕ, ◌≡◌, ◌<◌, ◌+◌, ◌&&◌, Bool, List, [], ◌∷◌, ◌++◌, ap, sym, ◌∙◌, refl, take, drop, length, get_or, map, add-one, suc, arith}
use Rattle.std.proofs.Math.Seq.{take-suc, take-length}
use Rattle.std.proofs.lemmas.List.{map-append}
use Rattle.std.proofs.Math.Seq.{drop-cons}
use Rattle.std.specs.List.{list_all}

pub list_all_map : {X Y : Type 0} (p : Y → Bool) (f : X → Y) (xs : List X) → list_all (λ x. p (f x)) xs ≡ list_all p (map f xs)
list_all_map p f [] = refl
list_all_map p f (x ∷ xs) = ap (λ b. p (f x) && b) (list_all_map p f xs)

-- the item at an index and those after it, where the items are plain numbers or enums
pub next_plain : {X : Type 0} (xs : List X) (i : ℕ) (d : X) → i < length xs → drop i xs ≡ get_or xs i d ∷ drop (i + 1) xs
next_plain xs i d h = rw add-one (drop-cons xs i d h)

pub map_map : {X Y Z : Type 0} (f : Y → Z) (g : X → Y) (xs : List X) → map f (map g xs) ≡ map (λ x. f (g x)) xs
map_map f g [] = refl
map_map f g (x ∷ xs) = ap (λ z. f (g x) ∷ z) (map_map f g xs)

-- one more item, read as that of the other list
pub push_at : {X Y Z : Type 0} (f : X → Z) (g : Y → Z) (vs us : List X) (v : X) (ys : List Y) (i : ℕ) (d : Y) → us ≡ vs ++ (v ∷ []) → i < length ys →
    f v ≡ g (get_or ys i d) → map f vs ≡ map g (take i ys) → map f us ≡ map g (take (i + 1) ys)
push_at f g vs us v ys i d pushed lt same so_far =
    ap (map f) pushed ∙ (map-append f vs (v ∷ []) ∙ (ap (λ z. map f vs ++ (z ∷ [])) same ∙ (ap (λ z. z ++ (g (get_or ys i d) ∷ [])) so_far
    ∙ (sym (map-append g (take i ys) (get_or ys i d ∷ [])) ∙
    (sym (ap (map g) (take-suc ys i d lt)) ∙ ap (λ k. map g (take k ys)) (let e : suc i ≡ i + 1 = omega arith in e))))))

pub push_mapped : {X Y Z : Type 0} (f : X → Z) (g : Y → Z) (vs us : List X) (v : X) (ys : List Y) (i : ℕ) (y : Y) → us ≡ vs ++ (v ∷ []) → i < length ys →
    y ≡ get_or ys i y →
    f v ≡ g y → map f vs ≡ map g (take i ys) → map f us ≡ map g (take (i + 1) ys)
push_mapped f g vs us v ys i y pushed lt is same so_far = push_at f g vs us v ys i y pushed lt (same ∙ ap g is) so_far

pub all_mapped : {X Y Z : Type 0} (f : X → Z) (g : Y → Z) (vs : List X) (ys : List Y) (i : ℕ) → i ≡ length ys → map f vs ≡ map g (take i ys) →
    map f vs ≡ map g ys
all_mapped f g vs ys i e h = h ∙ (ap (λ k. map g (take k ys)) e ∙ ap (map g) (take-length ys))
