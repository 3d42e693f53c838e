-- A name that is inserted before a string literal, and the pieces next to it.
use Rattle.std.specs.Prelude.{◌≡◌, ℕ, ◌+◌, List, [], ◌∷◌, length}
use Rattle.std.specs.List.{All}
use Rattle.go_scanner.specs.declared.piece.Class.{Class}
use Rattle.go_scanner.specs.declared.piece.Class.TheVariants.{Blank, Integer, Keyword, Name}
use Rattle.go_scanner.specs.declared.piece.Piece.{Piece}
use Rattle.go_respelled.specs.Literals.{piece_at}

-- A piece of this class is no name, no keyword and no number.
pub record IsNoWord (class : Class) : Type 0 where
  pub no_name : class ≡ Name → ⊥
  pub no_keyword : (k : Rattle.go_scanner.specs.declared.keywords.Keyword.Keyword) → class ≡ Keyword k → ⊥
  pub no_number : class ≡ Integer → ⊥

-- No piece that ends at the offset is a word or a number.
abbrev pub NoWordEndsAt : ℕ → List Piece → Type 0
NoWordEndsAt place pieces = All (λ p. p.span.end ≡ place → IsNoWord p.class) pieces

-- The pieces of a name at the offset `place` and of a blank behind it.
abbrev pub name_and_blank : ℕ → List ℕ → List Piece
name_and_blank place name = piece_at Name place name ∷ piece_at Blank (place + length name) (32 ∷ []) ∷ []
