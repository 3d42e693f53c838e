-- Which texts are names that a rename can give.
use Rattle.std.specs.Prelude.{ℕ, ◌≡◌, ◌≢◌, ◌≤◌, ◌⊎◌, Bool, false, not, List, [], ◌∷◌, length, codes}
use Rattle.std.specs.Str.{bytes_eq}
use Rattle.go_scanner.specs.declared.piece.Class.TheVariants.{Name}
use Rattle.go_scanner.specs.Characters.{is_letter}
use Rattle.go_scanner.specs.Pieces.{IsPiece}

-- The text is an identifier of at most 255 bytes: no keyword, and not `_`.
pub record IsNewName (name : List ℕ) : Type 0 where
  pub spelled : IsPiece Name name
  pub short : length name ≤ 255
  pub no_blank : name ≢ codes "_"

-- The name is `init` or `main`, which no declaration of a package block and no import can get.
abbrev pub IsReserved : List ℕ → Type 0
IsReserved name = (name ≡ codes "init") ⊎ (name ≡ codes "main")

-- Whether the first character of a text is a letter.
abbrev pub starts_with_letter : List ℕ → Bool
starts_with_letter [] = false
starts_with_letter (c ∷ cs) = is_letter c

-- whether two texts differ
abbrev pub is_other_text : List ℕ → List ℕ → Bool
is_other_text a b = not (bytes_eq a b)
