-- Lists of what is found for each element of a list.
use Rattle.std.specs.Prelude.{◌≡◌, List, [], ◌∷◌, ◌++◌, Option, None, Some}

-- What was found, as a list.
abbrev pub found_list : {Y : Type 0} → Option Y → List Y
found_list (Some y) = y ∷ []
found_list None = []

-- The list has what `P` says of each element, if that is something, in their order.
abbrev pub AreCollected : {X Y : Type 0} → (X → Option Y → Type 0) → List X → List Y → Type 0
AreCollected P [] ys = ys ≡ []
AreCollected {Y = Y} P (x ∷ xs) ys = (first : Option Y) × (others : List Y) × P x first × AreCollected P xs others × (ys ≡ found_list first ++ others)
