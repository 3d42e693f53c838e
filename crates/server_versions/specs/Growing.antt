-- A log that only grows, and the step that adds a version to it.
use Rattle.std.specs.Prelude.{ℕ, ◌≡◌, ◌==◌, ◌<◌, true, List, [], ◌∷◌, ◌++◌, length, MatchBool, Some, None}
use Rattle.std.specs.List.{last_or}
use mathlib.Core.List.{IsPrefix}
use Rattle.logbook.specs.Pages.{Cell, Step, View, Book, Named}

-- the first word is the number of versions. A book has two words, of which this one leaves the second at 0
pub record IsCounted {T : Type 0} (cells : List Cell) (log : List T) : Type 0 where
  pub words : cells ≡ (length log, true) ∷ (0, true) ∷ []

-- ys begins with xs, and goes on
abbrev pub IsLonger : {T : Type 0} → List T → List T → Type 0
IsLonger xs ys = IsPrefix xs ys × (length xs < length ys)

-- the last of these versions is this one
abbrev pub IsLastVersion : {T : Type 0} → List T → T → Type 0
IsLastVersion versions version = last_or None versions ≡ Some version

-- the word of the log in this book
abbrev pub word_of : Book → Named
word_of b = record { tracked = true; key = 0; book = b }

-- the version was added behind all that had been seen; or the log was longer, and was seen
abbrev pub AddsVersion : {T : Type 0} → Step T → View T ℕ → ℕ → View T ℕ → Type 0
AddsVersion s v found w = MatchBool (found == s.old) (w.0 ≡ v.0 ++ s.ask ∷ []) (length w.0 ≡ found)
