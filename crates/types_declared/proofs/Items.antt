-- The items of lists under a map.
use Rattle.std.proofs.Common.{ℕ, ◌≡◌, ◌<◌, List, length, get_or, ap, sym, ◌∙◌}
use Rattle.std.specs.Prelude.{Some, slice_get, map}
use Rattle.std.proofs.lemmas.Option.{slice_get-map, slice_get-get_or}
use Rattle.std.specs.Prelude.{option_map}

-- the item at a rank of the mapped list is the mapped item
pub item_at : {X Y : Type 0} (f : X → Y) (xs : List X) (ys : List Y) (rank : ℕ) (x : X) → map f xs ≡ ys → rank < length xs → x ≡ get_or xs rank x →
    slice_get ys rank ≡ Some (f x)
item_at f xs ys rank x e lt is = ap (λ zs. slice_get zs rank) (sym e) ∙ slice_get-map f xs rank ∙
    ap (option_map f) (slice_get-get_or xs rank x lt ∙ ap Some (sym is))
