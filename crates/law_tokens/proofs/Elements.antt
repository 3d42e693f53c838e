-- Facts on each element of a list.
use Rattle.std.proofs.Common.{ℕ, zero, suc, ◌≡◌, ◌+◌, ◌<◌, ◌≤◌, List, [], ◌∷◌, ◌++◌, length, map, subst, arith}
use Rattle.std.specs.Prelude.{Some, slice_get}
use Rattle.std.specs.List.{AllByRecursion, flat_map, enumerate_from}
use Rattle.std.proofs.lemmas.Option.{none-some, same_Some}
use Rattle.base_lemmas.proofs.EachElement.{all_append, all_front, all_back}

pub all_got : {X : Type 0} (P : X → Type 0) (xs : List X) (k : ℕ) (x : X) → AllByRecursion P xs → slice_get xs k ≡ Some x → P x
all_got P [] k x a e = absurd (none-some x e)
all_got P (y ∷ ys) zero x a e = subst P (same_Some y x e) a.0
all_got P (y ∷ ys) (suc k) x a e = all_got P ys k x a.1 e

-- of a list that is made of another

pub all_flat : {X Y : Type 0} (P : X → Type 0) (Q : Y → Type 0) (g : X → List Y) → ((x : X) → P x → AllByRecursion Q (g x)) → (xs : List X) →
    AllByRecursion P xs → AllByRecursion Q (flat_map g xs)
all_flat P Q g h [] a = tt
all_flat P Q g h (x ∷ xs) a = all_append Q (g x) (flat_map g xs) (h x a.0) (all_flat P Q g h xs a.1)

pub all_made : {X Y : Type 0} (Q : Y → Type 0) (g : X → List Y) → ((x : X) → AllByRecursion Q (g x)) → (xs : List X) → AllByRecursion Q (flat_map g xs)
all_made Q g h [] = tt
all_made Q g h (x ∷ xs) = all_append Q (g x) (flat_map g xs) (h x) (all_made Q g h xs)

pub all_map : {X Y : Type 0} (Q : Y → Type 0) (g : X → Y) → ((x : X) → Q (g x)) → (xs : List X) → AllByRecursion Q (map g xs)
all_map Q g h [] = tt
all_map Q g h (x ∷ xs) = (h x, all_map Q g h xs)

pub all_numbered : {X : Type 0} (n k : ℕ) (xs : List X) → k + length xs ≤ n → AllByRecursion (λ (r : ℕ × X). r.0 < n) (enumerate_from k xs)
all_numbered n k [] le = tt
all_numbered n k (x ∷ xs) le = ((let lt : k < n = omega arith in lt), all_numbered n (k + 1) xs (omega arith))
