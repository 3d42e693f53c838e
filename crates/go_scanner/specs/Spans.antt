-- How the pieces and the tokens of a text lie in it.
use Rattle.std.specs.Prelude.{◌≡◌, ◌⊎◌, ℕ, ◌<◌, ◌≤◌, List, [], ◌∷◌, length, map}
use Rattle.std.specs.List.Sorted.{IsStrictlySortedBy}
use Rattle.std.specs.Ordering.{nat_cmp}
use Rattle.go_scanner.specs.declared.operators.Operator.TheVariants.{Semicolon}
use Rattle.go_scanner.specs.declared.piece.Class.{Class}
use Rattle.go_scanner.specs.declared.piece.Class.TheVariants.{ByteOrderMark, Operator}
use Rattle.go_scanner.specs.declared.piece.Piece.{Piece}
use Rattle.go_scanner.specs.Cuts.{byte_order_mark}
use Rattle.go_scanner.specs.Pieces.{IsPiece}

-- the pieces follow one another without a gap from offset `from` to offset `to`, and none is empty
abbrev pub CoversFrom : ℕ → List Piece → ℕ → Type 0
CoversFrom from [] to = from ≡ to
CoversFrom from (p ∷ ps) to = (p.span.start ≡ from) × (from < p.span.end) × CoversFrom p.span.end ps to

-- the tokens lie between two offsets, each beginning where the one before ends or later
abbrev pub FollowFrom : ℕ → List Piece → ℕ → Type 0
FollowFrom from [] to = from ≤ to
FollowFrom from (t ∷ ts) to = (from ≤ t.span.start) × (t.span.start ≤ t.span.end) × FollowFrom t.span.end ts to

-- the offsets at which the tokens begin
abbrev pub starts : List Piece → List ℕ
starts ts = map (λ t. t.span.start) ts

-- the tokens lie in the text in order: no two overlap, and no two begin at one offset
pub record AreTokensInOrder (text : List ℕ) (tokens : List Piece) : Type 0 where
  pub follow : FollowFrom 0 tokens (length text)
  pub rise : IsStrictlySortedBy nat_cmp (starts tokens)

-- the bytes are a piece of the class, or the class is the byte order mark and they are its bytes
abbrev pub IsPieceText : Class → List ℕ → Type 0
IsPieceText class bytes = IsPiece class bytes ⊎ ((class ≡ ByteOrderMark) × (bytes ≡ byte_order_mark))

-- the bytes are a piece of the class, or the class is a semicolon and there are none, as for an inserted one
abbrev pub IsTokenText : Class → List ℕ → Type 0
IsTokenText class bytes = IsPiece class bytes ⊎ ((class ≡ Operator Semicolon) × (bytes ≡ []))
