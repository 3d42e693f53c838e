-- The tokens of a cut: its pieces without trivia, with inserted semicolons (Go specification, "Semicolons").
use Rattle.std.specs.Prelude.{◌≡◌, ℕ, Option, Some, None, ◌-◌, Bool, true, false, ◌==◌, ◌||◌, ◌&&◌, List, [], ◌∷◌, ◌++◌, take, drop, if◌then◌else◌}
use Rattle.std.specs.List.{list_any}
use Rattle.go_scanner.specs.declared.keywords.Keyword.TheVariants.{Break, Continue, Fallthrough, Return}
use Rattle.go_scanner.specs.declared.operators.Operator.TheVariants.{Semicolon, Increment, Decrement, RightParen, RightBracket, RightBrace}
use Rattle.go_scanner.specs.declared.piece.Class.{Class}
use Rattle.go_scanner.specs.declared.piece.Class.TheVariants.{ByteOrderMark, Blank, Newline, LineComment, GeneralComment, Name, Keyword, Integer}
use Rattle.go_scanner.specs.declared.piece.Class.TheVariants.{InterpretedString, RawString, Operator}
use Rattle.go_scanner.specs.declared.piece.Piece.{Piece}

-- pieces of this class are no tokens
abbrev pub is_trivia : Class → Bool
is_trivia ByteOrderMark = true
is_trivia Blank = true
is_trivia Newline = true
is_trivia LineComment = true
is_trivia GeneralComment = true
is_trivia _ = false

-- a semicolon is inserted after a token of this class at the end of a line
abbrev pub ends_statement : Class → Bool
ends_statement Name = true
ends_statement Integer = true
ends_statement InterpretedString = true
ends_statement RawString = true
ends_statement (Keyword Break) = true
ends_statement (Keyword Continue) = true
ends_statement (Keyword Fallthrough) = true
ends_statement (Keyword Return) = true
ends_statement (Operator Increment) = true
ends_statement (Operator Decrement) = true
ends_statement (Operator RightParen) = true
ends_statement (Operator RightBracket) = true
ends_statement (Operator RightBrace) = true
ends_statement _ = false

-- there is a newline among the bytes of a piece
abbrev pub has_line_end : List ℕ → Piece → Bool
has_line_end text p = list_any (λ b. b == 10) (take (p.span.end - p.span.start) (drop p.span.start text))

-- a piece of this class ends a line; `holds` says whether it contains a newline
abbrev pub ends_line_by : Class → Bool → Bool
ends_line_by Newline holds = true
ends_line_by GeneralComment holds = holds
ends_line_by _ holds = false

-- the piece ends a line: a newline, or a general comment that contains one
abbrev pub ends_line : List ℕ → Piece → Bool
ends_line text p = ends_line_by p.class (has_line_end text p)

-- the line ends before the next token, or there is no next token
unfoldable pub line_ends : List ℕ → List Piece → Bool
line_ends text [] = true
line_ends text (p ∷ ps) = if is_trivia p.class then ends_line text p || line_ends text ps else false

-- an inserted semicolon at an offset: an empty token
abbrev pub semicolon : ℕ → Piece
semicolon at = record { class = Operator Semicolon; span = record { start = at; end = at } }

-- the tokens of the pieces of a text
unfoldable pub tokens_of : List ℕ → List Piece → List Piece
tokens_of text [] = []
tokens_of text (p ∷ ps) = if is_trivia p.class then tokens_of text ps
    else p ∷ (if ends_statement p.class && line_ends text ps then semicolon p.span.end ∷ tokens_of text ps else tokens_of text ps)

-- the tokens of the pieces that are left, after the semicolon that is due at an offset if the line ends
abbrev pub tokens_due : List ℕ → Option ℕ → List Piece → List Piece
tokens_due text None ps = tokens_of text ps
tokens_due text (Some at) ps = if line_ends text ps then semicolon at ∷ tokens_of text ps else tokens_of text ps

-- the tokens `found` with `due` grow by the piece p to the tokens `more` with `next`, whichever pieces follow
abbrev pub AddsTokensOf : List ℕ → List Piece → Option ℕ → Piece → List Piece → Option ℕ → Type 0
AddsTokensOf text found due p more next = (rest : List Piece) → more ++ tokens_due text next rest ≡ found ++ tokens_due text due (p ∷ rest)
