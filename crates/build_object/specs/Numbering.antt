-- The slots of parameters and locals: numbers by the first place in a list.
use Rattle.std.specs.Prelude.{ℕ, suc, ◌==◌, Bool, true, false, if◌then◌else◌, List, [], ◌∷◌, Option, Some, None}

-- The number of the first place in the list that is `place`, where the list is numbered from n.
abbrev pub slot_from : ℕ → List ℕ → ℕ → Option ℕ
slot_from n [] place = None
slot_from n (p ∷ ps) place = if p == place then Some n else slot_from (suc n) ps place

-- The number that is given already, or else the new number where it is needed.
abbrev pub first_of : Option ℕ → (here : Bool) → (number : ℕ) → Option ℕ
first_of (Some n) here number = Some n
first_of None true number = Some number
first_of None false number = None

-- The slot of the parameter or local that is declared at token `place`.
abbrev pub slot_of : List ℕ → ℕ → Option ℕ
slot_of slots place = slot_from 0 slots place
