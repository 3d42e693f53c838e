-- What a store holds, as it grows.
use Rattle.std.specs.Prelude.{◌≡◌, ℕ, Bool, false, true, List, ◌++◌, length, take, Option, Some, None, IfSome, MatchOption}
use Rattle.server_journal.specs.declared.kept.KeptFault.{KeptFault}
use Rattle.server_journal.specs.declared.kept.KeptFault.TheVariants.{Memory, Refused, Lost}

-- The bytes stand behind those that were held, if these are known. What is not known stays unknown, here and below.
abbrev pub Grows : (before : Option (List ℕ)) → List ℕ → (after : Option (List ℕ)) → Type 0
Grows before bytes after = MatchOption before (after ≡ None) (λ held. after ≡ Some (held ++ bytes))

-- some bytes, or none, stand behind those that were held, if these are known
abbrev pub GrowsInPart : (before after : Option (List ℕ)) → Type 0
GrowsInPart before after = MatchOption before (after ≡ None) (λ held. (part : List ℕ) × (after ≡ Some (held ++ part)))

-- so many bytes are held, if they are known
abbrev pub HoldsBytes : Option (List ℕ) → ℕ → Type 0
HoldsBytes holds n = IfSome holds (λ held. length held ≡ n)

-- the first n bytes are still held, if it is known what was held
abbrev pub Returns : (before : Option (List ℕ)) → ℕ → (after : Option (List ℕ)) → Type 0
Returns before n after = MatchOption before (after ≡ None) (λ held. after ≡ Some (take n held))

-- so many bytes are held, unless the store was given up
abbrev pub KeepsUnlessLost : Bool → Option (List ℕ) → ℕ → Type 0
KeepsUnlessLost is_lost holds n = is_lost ≡ false → HoldsBytes holds n

-- A record was not added. The store holds what it held, and is given up only if it was before; or it is given up.
abbrev pub FailsToKeep : KeptFault → (before after : Option (List ℕ)) → (was_lost is_lost : Bool) → Type 0
FailsToKeep Memory before after was_lost is_lost = (after ≡ before) × (is_lost ≡ was_lost)
FailsToKeep Refused before after was_lost is_lost = (after ≡ before) × (is_lost ≡ was_lost)
FailsToKeep Lost before after was_lost is_lost = is_lost ≡ true
