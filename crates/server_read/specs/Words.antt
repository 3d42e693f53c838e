-- Words, and the spaces between them.
use Rattle.std.specs.Prelude.{◌≢◌, ℕ, List, [], ◌∷◌, ◌++◌}
use Rattle.std.specs.List.{AllByRecursion}

-- the text has no space
abbrev pub HasNoSpace : List ℕ → Type 0
HasNoSpace text = AllByRecursion (λ b. b ≢ 32) text

-- the text has no `:#`, which separates a path from an offset
abbrev pub HasNoMark : List ℕ → Type 0
HasNoMark text = (front back : List ℕ) → text ≢ front ++ 58 ∷ 35 ∷ back

-- the text is a word: it isn't empty, and has no space
abbrev pub IsArgument : List ℕ → Type 0
IsArgument word = (word ≢ []) × HasNoSpace word

-- the words, with one space between
abbrev pub spaced : List ℕ → List (List ℕ) → List ℕ
spaced first [] = first
spaced first (next ∷ others) = first ++ 32 ∷ spaced next others
