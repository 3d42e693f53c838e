-- The elements of lists that functions make of other lists.
use Rattle.std.proofs.Common.{◌≡◌, List, [], ◌∷◌, map, Option, Some, None, refl, sym, ap, subst, ◌∙◌, ⊎_elim}
use Rattle.std.specs.List.{Contains, filter_map, cons_option}
use Rattle.base_lemmas.proofs.Elements.{nothing_in, first_in, later_in, first_or_later}

-- the first, or one behind it

-- ---- what a partial function gives of a list
made_from : {X Y : Type 0} (h : X → Option Y) (x : X) (xs : List X) (o : Option Y) (y : Y) → h x ≡ o
    → (Contains (filter_map h xs) y → (z : X) × Contains xs z × (h z ≡ Some y)) → Contains (cons_option o (filter_map h xs)) y → (z : X) ×
    Contains (x ∷ xs) z × (h z ≡ Some y)
made_from h x xs None y is rest has = let r = rest has in (r.0, later_in x xs r.0 r.1, r.2)
made_from h x xs (Some v) y is rest has =
    ⊎_elim
    (λ (same : v ≡ y). (x, first_in x xs, is ∙ ap Some same))
    (λ (later : Contains (filter_map h xs) y). let r = rest later in (r.0, later_in x xs r.0 r.1, r.2))
    (first_or_later v (filter_map h xs) y has)

pub given_from : {X Y : Type 0} (h : X → Option Y) (xs : List X) (y : Y) → Contains (filter_map h xs) y → (x : X) × Contains xs x × (h x ≡ Some y)
given_from h [] y has = absurd (nothing_in y has)
given_from h (x ∷ xs) y has = made_from h x xs (h x) y refl (given_from h xs y) has

behind : {Y : Type 0} (o : Option Y) (ys : List Y) (y : Y) → Contains ys y → Contains (cons_option o ys) y
behind None ys y has = has
behind (Some v) ys y has = later_in v ys y has

pub is_given : {X Y : Type 0} (h : X → Option Y) (xs : List X) (x : X) (y : Y) → Contains xs x → h x ≡ Some y → Contains (filter_map h xs) y
is_given h [] x y has is = absurd (nothing_in x has)
is_given h (z ∷ xs) x y has is =
    ⊎_elim
    (λ (same : z ≡ x). subst (λ (o : Option _). Contains (cons_option o (filter_map h xs)) y) (sym (ap h same ∙ is)) (first_in y (filter_map h xs)))
    (λ (later : Contains xs x). behind (h z) (filter_map h xs) y (is_given h xs x y later is))
    (first_or_later z xs x has)

-- ---- what a function gives of a list
pub mapped_from : {X Y : Type 0} (f : X → Y) (xs : List X) (y : Y) → Contains (map f xs) y → (x : X) × Contains xs x × (f x ≡ y)
mapped_from f [] y has = absurd (nothing_in y has)
mapped_from f (x ∷ xs) y has =
    ⊎_elim
    (λ (same : f x ≡ y). (x, first_in x xs, same))
    (λ (later : Contains (map f xs) y). let r = mapped_from f xs y later in (r.0, later_in x xs r.0 r.1, r.2))
    (first_or_later (f x) (map f xs) y has)
