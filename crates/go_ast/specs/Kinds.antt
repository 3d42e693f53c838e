-- The tokens of a file as kinds of the grammar.
use Rattle.std.specs.Prelude.{ℕ, ◌+◌, ◌-◌, ◌==◌, List, [], ◌∷◌, length, drop, cond}
use Rattle.std.specs.Cmp.Lexicographic.{pointwise}
use Rattle.go_scanner.specs.declared.keywords.Keyword.{Keyword}
use Rattle.go_scanner.specs.declared.keywords.Keyword.TheVariants as word
use Rattle.go_scanner.specs.declared.operators.Operator.{Operator}
use Rattle.go_scanner.specs.declared.operators.Operator.TheVariants as sign
use Rattle.go_scanner.specs.declared.piece.Class.{Class}
use Rattle.go_scanner.specs.declared.piece.Class.TheVariants as class
use Rattle.go_scanner.specs.declared.piece.Piece.{Piece}
use Rattle.go_scanner.specs.Cuts.{bytes_of}
use Rattle.go_scanner.specs.CutText.{CutText, tokens_in}
use Rattle.go_ast.specs.declared.syntax.Kind.{Kind}
use Rattle.go_ast.specs.declared.syntax.Kind.TheVariants as kind
use Rattle.go_ast.specs.declared.syntax.Token.{Token}

-- the kind of a keyword
abbrev pub kind_of_keyword : Keyword → Kind
kind_of_keyword word.Break = kind.Break
kind_of_keyword word.Continue = kind.Continue
kind_of_keyword word.Else = kind.Else
kind_of_keyword word.For = kind.For
kind_of_keyword word.Func = kind.Func
kind_of_keyword word.If = kind.If
kind_of_keyword word.Import = kind.Import
kind_of_keyword word.Interface = kind.Interface
kind_of_keyword word.Package = kind.Package
kind_of_keyword word.Return = kind.Return
kind_of_keyword word.Struct = kind.Struct
kind_of_keyword word.Type = kind.TypeWord
kind_of_keyword word.Var = kind.Var
kind_of_keyword _ = kind.Other

-- the kind of an operator
abbrev pub kind_of_operator : Operator → Kind
kind_of_operator sign.LeftParen = kind.LeftParen
kind_of_operator sign.RightParen = kind.RightParen
kind_of_operator sign.LeftBracket = kind.LeftBracket
kind_of_operator sign.RightBracket = kind.RightBracket
kind_of_operator sign.LeftBrace = kind.LeftBrace
kind_of_operator sign.RightBrace = kind.RightBrace
kind_of_operator sign.Comma = kind.Comma
kind_of_operator sign.Period = kind.Dot
kind_of_operator sign.Colon = kind.Colon
kind_of_operator sign.Semicolon = kind.Semicolon
kind_of_operator sign.Add = kind.Plus
kind_of_operator sign.Subtract = kind.Minus
kind_of_operator sign.Multiply = kind.Star
kind_of_operator sign.Divide = kind.Slash
kind_of_operator sign.Remainder = kind.Percent
kind_of_operator sign.Equal = kind.Equal
kind_of_operator sign.NotEqual = kind.NotEqual
kind_of_operator sign.Less = kind.Less
kind_of_operator sign.LessEqual = kind.LessEqual
kind_of_operator sign.Greater = kind.Greater
kind_of_operator sign.GreaterEqual = kind.GreaterEqual
kind_of_operator sign.LogicalAnd = kind.AndAnd
kind_of_operator sign.LogicalOr = kind.OrOr
kind_of_operator sign.Not = kind.Not
kind_of_operator sign.And = kind.Ampersand
kind_of_operator sign.Assign = kind.Assign
kind_of_operator sign.Define = kind.Define
kind_of_operator sign.AddAssign = kind.AddAssign
kind_of_operator sign.SubtractAssign = kind.SubAssign
kind_of_operator sign.MultiplyAssign = kind.MulAssign
kind_of_operator sign.DivideAssign = kind.DivAssign
kind_of_operator sign.RemainderAssign = kind.RemAssign
kind_of_operator sign.Increment = kind.Increment
kind_of_operator sign.Decrement = kind.Decrement
kind_of_operator _ = kind.Other

-- the kind of an identifier: `Blank` for `_`, else `Name`
abbrev pub kind_of_name : List ℕ → Kind
kind_of_name bytes = cond (pointwise ◌==◌ bytes (95 ∷ [])) kind.Blank kind.Name

-- the kind of a token, by its class and its bytes
abbrev pub kind_of : Class → List ℕ → Kind
kind_of class.Name bytes = kind_of_name bytes
kind_of (class.Keyword k) bytes = kind_of_keyword k
kind_of class.Integer bytes = kind.Number
kind_of class.InterpretedString bytes = kind.Text
kind_of class.RawString bytes = kind.Text
kind_of (class.Operator o) bytes = kind_of_operator o
kind_of _ bytes = kind.Other

-- the tokens of a text with their kinds, with indices from n
unfoldable pub kinds_from : ℕ → List ℕ → List Piece → List Token
kinds_from n text [] = []
kinds_from n text (p ∷ ps) = record { kind = kind_of p.class (bytes_of text p); place = n } ∷ kinds_from (n + 1) text ps

-- the tokens of a cut text with their kinds, with indices from 0
abbrev pub kinds_of : CutText → List Token
kinds_of c = kinds_from 0 c.text (tokens_in c)

-- the offset at which the first token of a list begins, or the end of the text where the list is empty
abbrev pub begins_at : List ℕ → List Piece → ℕ
begins_at text [] = length text
begins_at text (p ∷ ps) = p.span.start

-- the offset at which the last `left` tokens of a file begin, or its end where there are none
abbrev pub place_of : CutText → ℕ → ℕ
place_of c left = begins_at c.text (drop (length (tokens_in c) - left) (tokens_in c))
