-- Spots and the places that they stand for.
use Rattle.std.proofs.Common.{◌≡◌, ◌<◌, ℕ, List, [], ◌∷◌, true, length, get_or, map, nat_eq, eqb→eq, T, sym, ap, subst, ◌∙◌}
use Rattle.std.specs.Prelude.{Contains, ◌==◌, ◌↔◌}
use Rattle.std.proofs.Math.ListN.{get_or-map, length-map}
use Rattle.std.specs.List.{AllByRecursion}
use Rattle.std.specs.List.Sorted.{IsStrictlySortedBy}
use Rattle.std.specs.Cmp.Lexicographic.{pointwise, bytes_decides}
use Rattle.std.specs.declared.cmp.Ordering.TheVariants.{Less}
use Rattle.std.proofs.lemmas.Bool.{and_parts}
use Rattle.base_files.specs.declared.place.Place.{Place}
use Rattle.refs_binding.specs.contracts.place_key.PlaceKeyOrd.TheImpl as order
use Rattle.refs_binding.specs.contracts.place_key.PlaceKeyPartialEq.TheImpl as equal
use Rattle.refs_binding.specs.declared.place_key.PlaceKey.{PlaceKey}
use Rattle.refs_binding.specs.Steps.{place_of}
use Rattle.refs_binding.specs.Places.{place_cmp}

abbrev spot_of : Place → PlaceKey
spot_of p = record { path = p.path; offset = p.offset }

abbrev make : List ℕ → ℕ → PlaceKey
make path offset = record { path = path; offset = offset }

-- Spots that compare as equal are equal.
same_spot : (x y : PlaceKey) → equal.ghosts.eq x y ≡ true → y ≡ x
same_spot x y e =
    let a = and_parts (pointwise ◌==◌ x.path y.path) (nat_eq x.offset y.offset) e in
    let paths : x.path ≡ y.path = (bytes_decides x.path y.path).0 a.0 in
    let offsets : x.offset ≡ y.offset = eqb→eq x.offset y.offset (subst T (sym a.1) tt) in
    ap (λ p. make p y.offset) (sym paths) ∙ ap (λ o. make x.path o) (sym offsets)

pub contained : (xs : List PlaceKey) (x y : PlaceKey) (k : ℕ) → k < length xs → get_or xs k y ≡ y → equal.ghosts.eq x y ≡ true → Contains xs x
contained xs x y k lt at e = subst (Contains xs) (same_spot x y e) (k, lt, at)

all_after : (s : PlaceKey) (xs : List PlaceKey) → AllByRecursion (λ t. order.ghosts.cmp s t ≡ Less) xs →
    AllByRecursion (λ q. place_cmp (place_of s) q ≡ Less) (map place_of xs)
all_after s [] h = tt
all_after s (x ∷ xs) h = (h.0, all_after s xs h.1)

-- places in order, one after another
pub sorted_places : (xs : List PlaceKey) → IsStrictlySortedBy order.ghosts.cmp xs → IsStrictlySortedBy place_cmp (map place_of xs)
unfolding IsStrictlySortedBy
sorted_places [] h = tt
sorted_places (x ∷ xs) h = (all_after x xs h.0, sorted_places xs h.1)

-- a list of places holds what the list of spots holds
pub held : (xs : List PlaceKey) (s : PlaceKey) → Contains (map place_of xs) (place_of s) ↔ Contains xs s
held xs s = (
  (λ h. let at : place_of (get_or xs h.0 s) ≡ place_of s = sym (get_or-map place_of xs h.0 s) ∙ h.2 in
      (h.0, (let lt : h.0 < length (map place_of xs) = h.1 in rw (length-map xs place_of) at lt), ap spot_of at)),
  (λ h. (h.0, (let lt : h.0 < length xs = h.1 in rw (length-map xs place_of) lt), get_or-map place_of xs h.0 s ∙ ap place_of h.2)),
)

-- The list of places holds the places of another list of spots with equal elements.
pub held_as : (places : List Place) (xs ys : List PlaceKey) (s : PlaceKey) → places ≡ map place_of xs → (Contains ys s → Contains xs s) →
    (Contains xs s → Contains ys s) → Contains places (place_of s) ↔ Contains ys s
held_as places xs ys s e to from = (
  (λ h. from ((held xs s).0 (subst (λ l. Contains l (place_of s)) e h))),
  (λ h. subst (λ l. Contains l (place_of s)) (sym e) ((held xs s).1 (to h))),
)
