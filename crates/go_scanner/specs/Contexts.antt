-- Which bytes may follow a piece without making it longer.
use Rattle.std.specs.Prelude.{◌≡◌, ◌⊎◌, ℕ, ◌^◌, ◌<◌, ◌≤◌, true, false, nat_eq, List, [], ◌++◌, IfSome, length, slice_index}
use Rattle.std.specs.List.{starts_with}
use Rattle.bstr.specs.Find.{OccursAt}
use Rattle.bstr.specs.Utf8.{decoded}
use Rattle.go_scanner.specs.declared.piece.Class.{Class}
use Rattle.go_scanner.specs.declared.piece.Class.TheVariants.{ByteOrderMark, Blank, Newline, LineComment, GeneralComment, Name, Keyword, Integer}
use Rattle.go_scanner.specs.declared.piece.Class.TheVariants.{InterpretedString, RawString, Operator}
use Rattle.go_scanner.specs.Characters.{continues_name}
use Rattle.go_scanner.specs.Integers.{integer_value}
use Rattle.go_scanner.specs.Operators.{operator_spelling}
use Rattle.go_scanner.specs.Pieces.{IsFraction, spoils_number}
use Rattle.go_scanner.specs.Trivia.{line_opening, comment_opening}

-- `rest` does not begin with a character that would continue a name
abbrev pub EndsName : List ℕ → Type 0
EndsName rest = IfSome (decoded rest).char (λ c. continues_name c ≡ false)

-- the operator `o` followed by `rest` begins with no longer operator, no comment and no fraction
pub record EndsOperator (o : Rattle.go_scanner.specs.declared.operators.Operator.Operator) (rest : List ℕ) : Type 0 where
  pub longest : (other : Rattle.go_scanner.specs.declared.operators.Operator.Operator) →
      starts_with nat_eq (operator_spelling o ++ rest) (operator_spelling other) ≡ true → length (operator_spelling other) ≤ length (operator_spelling o)
  pub no_line : OccursAt (operator_spelling o ++ rest) line_opening 0 → ⊥
  pub no_comment : OccursAt (operator_spelling o ++ rest) comment_opening 0 → ⊥
  pub whole : IsFraction (operator_spelling o ++ rest) → ⊥

-- `rest` may follow the piece `bytes` of a class; this depends on the first character of `rest` at most, and after an operator on its first
-- two bytes
abbrev pub MayFollow : Class → List ℕ → List ℕ → Type 0
MayFollow ByteOrderMark bytes rest = ⊥
MayFollow Blank bytes rest = Unit {0}
MayFollow Newline bytes rest = Unit {0}
MayFollow LineComment bytes rest = (rest ≡ []) ⊎ (slice_index rest 0 ≡ 10)
MayFollow GeneralComment bytes rest = Unit {0}
MayFollow Name bytes rest = EndsName rest
MayFollow (Keyword k) bytes rest = EndsName rest
MayFollow Integer bytes rest = (spoils_number (decoded rest).char ≡ false) × (integer_value bytes < 2 ^ 63)
MayFollow InterpretedString bytes rest = Unit {0}
MayFollow RawString bytes rest = Unit {0}
MayFollow (Operator o) bytes rest = EndsOperator o rest
