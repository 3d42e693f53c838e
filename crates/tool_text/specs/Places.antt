-- Words of places: `PATH:#OFFSET` and `PATH:LINE:COLUMN`.
use Rattle.std.specs.Prelude.{◌≡◌, ◌<◌, ◌^◌, ℕ, List, ◌∷◌, ◌++◌}
use Rattle.std.specs.Str.Parse.{IsNumeral, digits_value, without_leading_plus}
use Rattle.tool_text.specs.Parts.{HasNoByte}
use Rattle.tool_text.specs.declared.places.AskedPlace.{AskedPlace}
use Rattle.tool_text.specs.declared.positions.LinePosition.{LinePosition}
use Rattle.tool_text.specs.declared.places.Spot.{Spot}
use Rattle.tool_text.specs.declared.places.Spot.TheVariants.{At, Offset}

-- The text writes this number in decimal, and it is below 2^64.
abbrev pub IsNumberText : List ℕ → ℕ → Type 0
IsNumberText text number =
    IsNumeral 10 (without_leading_plus text) × (number ≡ digits_value 10 (without_leading_plus text)) × (number < 2 ^ 64)

abbrev pub HasNoNumber : List ℕ → Type 0
HasNoNumber text = (number : ℕ) → IsNumberText text number → ⊥

-- The text is a line and a column, with a colon between.
abbrev pub IsPositionWord : List ℕ → LinePosition → Type 0
IsPositionWord text at = (line column : List ℕ) × (text ≡ line ++ 58 ∷ column) × HasNoByte 58 line × IsNumberText line at.line × IsNumberText column at.column

abbrev pub HasNoPosition : List ℕ → Type 0
HasNoPosition text = (at : LinePosition) → IsPositionWord text at → ⊥

-- The text is what follows the path of a place: an offset behind `#`, or a position.
abbrev pub IsSpotWord : List ℕ → Spot → Type 0
IsSpotWord text (Offset offset) = (digits : List ℕ) × (text ≡ 35 ∷ digits) × IsNumberText digits offset
IsSpotWord text (At at) = IsPositionWord text at

abbrev pub HasNoSpot : List ℕ → Type 0
HasNoSpot text = (spot : Spot) → IsSpotWord text spot → ⊥

-- The word gives this place: its path has no colon.
abbrev pub IsPlaceWord : List ℕ → AskedPlace → Type 0
IsPlaceWord word place = (spot : List ℕ) × (word ≡ place.path.now ++ 58 ∷ spot) × HasNoByte 58 place.path.now × IsSpotWord spot place.spot

abbrev pub HasNoPlace : List ℕ → Type 0
HasNoPlace word = (place : AskedPlace) → IsPlaceWord word place → ⊥
