-- The parts of a text between the bytes of one value.
use Rattle.std.specs.Prelude.{◌≡◌, ◌≢◌, ◌<◌, ◌==◌, ℕ, List, [], ◌∷◌, ◌++◌, Option, None, Some, length}
use Rattle.std.specs.Borrow.{Bor}
use Rattle.std.specs.List.{slice_index_or, slice_split}

-- The parts of a text between the bytes `mark`.
abbrev pub parts : ℕ → List ℕ → List (List ℕ)
parts mark = slice_split (λ byte. byte == mark)

-- The parts of what is left, if anything is.
abbrev pub parts_left : ℕ → Option (Bor (List ℕ)) → List (List ℕ)
parts_left mark None = []
parts_left mark (Some rest) = parts mark rest.now

-- The part is the first of the text, and the others are those of the rest.
abbrev pub SplitsPart : ℕ → List ℕ → List ℕ → Option (Bor (List ℕ)) → Type 0
SplitsPart mark text part rest = parts mark text ≡ part ∷ parts_left mark rest

-- The text does not have this byte.
abbrev pub HasNoByte : ℕ → List ℕ → Type 0
HasNoByte mark text = (number : ℕ) → number < length text → slice_index_or text number 0 ≢ mark

-- The parts of the text before and after the first byte `mark`; none where the text does not have it.
abbrev pub SplitsAt : ℕ → List ℕ → Option (Bor (List ℕ) × Bor (List ℕ)) → Type 0
SplitsAt mark text None = HasNoByte mark text
SplitsAt mark text (Some halves) = (text ≡ halves.0.now ++ mark ∷ halves.1.now) × HasNoByte mark halves.0.now
