-- A text with its pieces, and its tokens.
use Rattle.std.specs.Prelude.{◌≡◌, ℕ, List, get_or}
use Rattle.go_scanner.specs.declared.piece.Piece.{Piece}
use Rattle.go_scanner.specs.Cuts.{IsCut}
use Rattle.go_scanner.specs.Tokens.{semicolon, tokens_of}

-- a text and the pieces into which it is cut
pub record CutText : Type 0 where
  pub text : List ℕ
  pub pieces : List Piece

-- the tokens of a cut text, inserted semicolons included
abbrev pub tokens_in : CutText → List Piece
tokens_in c = tokens_of c.text c.pieces

-- the token of index `i`; beyond the last one, an empty token at offset 0
abbrev pub token_at : CutText → ℕ → Piece
token_at c i = get_or (tokens_in c) i (semicolon 0)

-- `pieces` are the cut of `text`, and `tokens` are the tokens of these pieces
pub record IsCutText (text : List ℕ) (pieces tokens : List Piece) : Type 0 where
  pub cut : IsCut text pieces
  pub tokens_are : tokens ≡ tokens_of text pieces

-- the text has a cut, and `tokens` are its tokens
pub record HasTokens (text : List ℕ) (tokens : List Piece) : Type 0 where
  pub pieces : List Piece
  pub is : IsCutText text pieces tokens
