-- The ranks of declarations, by their numbers in a scope table.
use Rattle.std.specs.Prelude.{ℕ, ◌≡◌, ◌<◌, List, Option, Some, None, length, set, MatchOption}
use Rattle.go_scope.specs.declared.model.Position.{Position}
use Rattle.go_scope.specs.Bindings.{Layout}
use Rattle.go_scope.specs.Table.{LiesAt}
use Rattle.types_declared.specs.Package.{IsRanked}
use Rattle.go_scope.specs.ByToken.{row_number}

-- rank is the rank of the item that d declares; none where d declares no item of xs
abbrev pub IsRankOf : {X : Type 0} → (X → Position) → List X → Layout → ℕ → Option ℕ → Type 0
IsRankOf place_of xs l d rank = MatchOption rank ((r : ℕ) → IsRanked place_of xs l d r → ⊥) (λ r. IsRanked place_of xs l d r)

-- the list has for each identifier the rank of the item that it declares, or none
pub record AreRanks {X : Type 0} (place_of : X → Position) (xs : List X) (l : Layout) (size : ℕ) (ranks : List (Option ℕ)) : Type 0 where
  pub all : length ranks ≡ size
  pub each : (d : ℕ) → d < size → IsRankOf place_of xs l d (row_number ranks d)

-- the identifier of number u has the rank, if it had none before, and all others keep theirs
pub data RanksIfFree (old new : List (Option ℕ)) (u rank : ℕ) : Type 0 where
  free : row_number old u ≡ None → new ≡ set old u (Some rank) → RanksIfFree old new u rank
  taken : {r : ℕ} → row_number old u ≡ Some r → new ≡ old → RanksIfFree old new u rank

-- the identifier at the position has the rank, if it had none before; all others keep what they had
pub record NotesRank (l : Layout) (size : ℕ) (place : Position) (rank : ℕ) (old new : List (Option ℕ)) : Type 0 where
  pub sized : length new ≡ length old
  pub here : (u : ℕ) → u < size → LiesAt l place u → row_number old u ≡ None → row_number new u ≡ Some rank
  pub earlier : (u r : ℕ) → u < size → row_number old u ≡ Some r → row_number new u ≡ Some r
  pub elsewhere : (u : ℕ) → u < size → (LiesAt l place u → ⊥) → row_number new u ≡ row_number old u
