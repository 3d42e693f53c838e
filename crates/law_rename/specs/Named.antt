-- A text in which a name is inserted before a string literal: its pieces, its tokens and their kinds.
use Rattle.std.specs.Prelude.{◌≡◌, ℕ, ◌+◌, Bool, false, List, [], ◌∷◌, ◌++◌, cond, drop, length, map, take}
use Rattle.go_scanner.specs.declared.piece.Class.{Class}
use Rattle.go_scanner.specs.declared.piece.Class.TheVariants.{Blank, Name}
use Rattle.go_scanner.specs.declared.piece.Piece.{Piece}
use Rattle.go_scanner.specs.CutText.{CutText}
use Rattle.go_scanner.specs.Cuts.{IsCut}
use Rattle.go_scanner.specs.Pieces.{IsPiece}
use Rattle.go_scanner.specs.TokenValues.{IsStringClass}
use Rattle.go_respelled.specs.Literals.{piece_at, shifted}
use Rattle.go_ast.specs.declared.syntax.Token.{Token}
use Rattle.go_ast.specs.Kinds.{kind_of_name}
use Rattle.law_rename.specs.Put.{NoWordEndsAt, name_and_blank}

-- A string literal in its text with the pieces before and behind it, and the name to be inserted before it. `blank_first` says whether a
-- blank is inserted before the name too.
pub record NamePut : Type 0 where
  pub front : List ℕ
  pub literal : List ℕ
  pub rest : List ℕ
  pub before : List Piece
  pub class : Class
  pub after : List Piece
  pub blank_first : Bool
  pub name : List ℕ

-- The piece of the literal in the text before the insertion.
abbrev pub literal_piece : NamePut → Piece
literal_piece p = piece_at p.class (length p.front) p.literal

-- The bytes that are inserted before the literal: the name and a blank, with a blank first if `blank_first` says so.
abbrev pub put_bytes : NamePut → List ℕ
put_bytes p = cond p.blank_first (32 ∷ (p.name ++ 32 ∷ [])) (p.name ++ 32 ∷ [])

-- The byte offset at which the inserted name begins.
abbrev pub name_place : NamePut → ℕ
name_place p = cond p.blank_first (length p.front + 1) (length p.front)

-- The piece of the inserted name.
abbrev pub name_piece : NamePut → Piece
name_piece p = piece_at Name (name_place p) p.name

-- The pieces of the inserted bytes.
abbrev pub put_pieces : NamePut → List Piece
put_pieces p = cond p.blank_first (piece_at Blank (length p.front) (32 ∷ []) ∷ name_and_blank (length p.front + 1) p.name)
    (name_and_blank (length p.front) p.name)

-- The piece moved by the number of inserted bytes, as the literal and all behind it are.
abbrev pub moved_behind : NamePut → Piece → Piece
moved_behind p = shifted (length p.front) (length p.front + length (put_bytes p))

-- The text before the insertion, with its pieces.
abbrev pub before_put : NamePut → CutText
before_put p = record { text = p.front ++ (p.literal ++ p.rest); pieces = p.before ++ literal_piece p ∷ p.after }

-- The text after the insertion, with its pieces.
abbrev pub after_put : NamePut → CutText
after_put p = record {
  text = p.front ++ (put_bytes p ++ (p.literal ++ p.rest));
  pieces = (p.before ++ put_pieces p) ++ map (moved_behind p) (literal_piece p ∷ p.after);
}

-- The name may be inserted: the pieces are the cut of the text, and without a blank before the name, no word and no number ends at the
-- literal.
pub record MayPut (p : NamePut) : Type 0 where
  pub is_name : IsPiece Name p.name
  pub is_string : IsStringClass p.class
  pub apart : p.blank_first ≡ false → NoWordEndsAt (length p.front) p.before
  pub is_cut : IsCut (before_put p).text (before_put p).pieces

-- The list with the element `one` inserted at index `number`, and all elements behind it changed.
abbrev pub with_one_at : {X : Type 0} → ℕ → X → (X → X) → List X → List X
with_one_at number one change xs = take number xs ++ one ∷ map change (drop number xs)

-- The token with its index greater by one, as after a token was inserted before it.
abbrev pub later : Token → Token
later t = record { kind = t.kind; place = t.place + 1 }

-- The token of index `number` of a name, which is an identifier or `_`.
abbrev pub name_token : List ℕ → ℕ → Token
name_token name number = record { kind = kind_of_name name; place = number }
