-- String literals with given values, and the pieces of bytes at an offset.
use Rattle.std.specs.Prelude.{◌≡◌, ℕ, ◌+◌, ◌-◌, List, ◌∷◌, ◌++◌, length}
use Rattle.go_scanner.specs.declared.piece.Class.{Class}
use Rattle.go_scanner.specs.declared.piece.Class.TheVariants.{InterpretedString}
use Rattle.go_scanner.specs.declared.piece.Piece.{Piece}
use Rattle.go_scanner.specs.Cuts.{bytes_of}
use Rattle.go_scanner.specs.Pieces.{IsPiece}
use Rattle.go_scanner.specs.StringValues.{HasStringValue}

-- The bytes are a string piece whose only value is `value`.
pub record IsLiteralOf (bytes value : List ℕ) : Type 0 where
  pub piece : IsPiece InterpretedString bytes
  pub stands_for : HasStringValue bytes value
  pub no_other : (other : List ℕ) → HasStringValue bytes other → other ≡ value

-- The piece of the class that has these bytes and begins at the offset `place`.
abbrev pub piece_at : Class → ℕ → List ℕ → Piece
piece_at class place bytes = record { class = class; span = record { start = place; end = place + length bytes } }

-- The string piece that has these bytes and begins at the offset `place`.
abbrev pub literal_at : ℕ → List ℕ → Piece
literal_at place bytes = piece_at InterpretedString place bytes

-- The pieces `before` are followed by a string piece at the offset `place`, which has these bytes and this value.
pub record HasLiteralAt (text : List ℕ) (pieces before : List Piece) (place : ℕ) (bytes value : List ℕ) : Type 0 where
  pub after : List Piece
  pub pieces_are : pieces ≡ before ++ literal_at place bytes ∷ after
  pub bytes_are : bytes_of text (literal_at place bytes) ≡ bytes
  pub literal : IsLiteralOf bytes value

-- The piece moved from the offset `old` to the offset `new`.
abbrev pub shifted : (old new : ℕ) → Piece → Piece
shifted old new p = record { class = p.class; span = record { start = p.span.start - old + new; end = p.span.end - old + new } }
