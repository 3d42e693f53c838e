-- The operators and punctuation of Go and their spellings.
use Rattle.std.specs.Prelude.{ℕ, Bool, List, [], ◌∷◌, filter, slice_index, ◌==◌, ◌&&◌, ◌||◌}
use Rattle.go_scanner.specs.declared.operators.Operator.{Operator}
use Rattle.go_scanner.specs.declared.operators.Operator.TheVariants.{ShiftLeftAssign, ShiftRightAssign, Ellipsis, AndNotAssign, AddAssign, AndAssign}
use Rattle.go_scanner.specs.declared.operators.Operator.TheVariants.{LogicalAnd, Equal, NotEqual, SubtractAssign, OrAssign, LogicalOr, LessEqual}
use Rattle.go_scanner.specs.declared.operators.Operator.TheVariants.{MultiplyAssign, XorAssign, Arrow, GreaterEqual, ShiftLeft, DivideAssign, Increment}
use Rattle.go_scanner.specs.declared.operators.Operator.TheVariants.{Define, ShiftRight, RemainderAssign, Decrement, AndNot, Add, And, LeftParen, RightParen}
use Rattle.go_scanner.specs.declared.operators.Operator.TheVariants.{Subtract, Or, Less, LeftBracket, RightBracket, Multiply, Xor, Greater, LeftBrace}
use Rattle.go_scanner.specs.declared.operators.Operator.TheVariants.{RightBrace, Divide, Assign, Comma, Semicolon, Remainder, Not, Period, Colon, Tilde}

-- the bytes of an operator
abbrev pub operator_spelling : Operator → List ℕ
operator_spelling ShiftLeftAssign = 60 ∷ 60 ∷ 61 ∷ []  -- <<=
operator_spelling ShiftRightAssign = 62 ∷ 62 ∷ 61 ∷ []  -- >>=
operator_spelling Ellipsis = 46 ∷ 46 ∷ 46 ∷ []  -- ...
operator_spelling AndNotAssign = 38 ∷ 94 ∷ 61 ∷ []  -- &^=
operator_spelling AddAssign = 43 ∷ 61 ∷ []  -- +=
operator_spelling AndAssign = 38 ∷ 61 ∷ []  -- &=
operator_spelling LogicalAnd = 38 ∷ 38 ∷ []  -- &&
operator_spelling Equal = 61 ∷ 61 ∷ []  -- ==
operator_spelling NotEqual = 33 ∷ 61 ∷ []  -- !=
operator_spelling SubtractAssign = 45 ∷ 61 ∷ []  -- -=
operator_spelling OrAssign = 124 ∷ 61 ∷ []  -- |=
operator_spelling LogicalOr = 124 ∷ 124 ∷ []  -- ||
operator_spelling LessEqual = 60 ∷ 61 ∷ []  -- <=
operator_spelling MultiplyAssign = 42 ∷ 61 ∷ []  -- *=
operator_spelling XorAssign = 94 ∷ 61 ∷ []  -- ^=
operator_spelling Arrow = 60 ∷ 45 ∷ []  -- <-
operator_spelling GreaterEqual = 62 ∷ 61 ∷ []  -- >=
operator_spelling ShiftLeft = 60 ∷ 60 ∷ []  -- <<
operator_spelling DivideAssign = 47 ∷ 61 ∷ []  -- /=
operator_spelling Increment = 43 ∷ 43 ∷ []  -- ++
operator_spelling Define = 58 ∷ 61 ∷ []  -- :=
operator_spelling ShiftRight = 62 ∷ 62 ∷ []  -- >>
operator_spelling RemainderAssign = 37 ∷ 61 ∷ []  -- %=
operator_spelling Decrement = 45 ∷ 45 ∷ []  -- --
operator_spelling AndNot = 38 ∷ 94 ∷ []  -- &^
operator_spelling Add = 43 ∷ []  -- +
operator_spelling And = 38 ∷ []  -- &
operator_spelling LeftParen = 40 ∷ []  -- (
operator_spelling RightParen = 41 ∷ []  -- )
operator_spelling Subtract = 45 ∷ []  -- -
operator_spelling Or = 124 ∷ []  -- |
operator_spelling Less = 60 ∷ []  -- <
operator_spelling LeftBracket = 91 ∷ []  -- [
operator_spelling RightBracket = 93 ∷ []  -- ]
operator_spelling Multiply = 42 ∷ []  -- *
operator_spelling Xor = 94 ∷ []  -- ^
operator_spelling Greater = 62 ∷ []  -- >
operator_spelling LeftBrace = 123 ∷ []  -- {
operator_spelling RightBrace = 125 ∷ []  -- }
operator_spelling Divide = 47 ∷ []  -- /
operator_spelling Assign = 61 ∷ []  -- =
operator_spelling Comma = 44 ∷ []  -- ,
operator_spelling Semicolon = 59 ∷ []  -- ;
operator_spelling Remainder = 37 ∷ []  -- %
operator_spelling Not = 33 ∷ []  -- !
operator_spelling Period = 46 ∷ []  -- .
operator_spelling Colon = 58 ∷ []  -- :
operator_spelling Tilde = 126 ∷ []  -- ~

-- all operators, longer ones first
abbrev pub all_operators : List Operator
all_operators = ShiftLeftAssign ∷ ShiftRightAssign ∷ Ellipsis ∷ AndNotAssign ∷ AddAssign ∷ AndAssign ∷ LogicalAnd ∷ Equal ∷ NotEqual ∷ SubtractAssign ∷
    OrAssign ∷ LogicalOr ∷ LessEqual ∷ MultiplyAssign ∷ XorAssign ∷ Arrow ∷ GreaterEqual ∷ ShiftLeft ∷ DivideAssign ∷ Increment ∷ Define ∷ ShiftRight ∷
    RemainderAssign ∷ Decrement ∷ AndNot ∷ Add ∷ And ∷ LeftParen ∷ RightParen ∷ Subtract ∷ Or ∷ Less ∷ LeftBracket ∷ RightBracket ∷ Multiply ∷ Xor ∷ Greater
    ∷ LeftBrace ∷ RightBrace ∷ Divide ∷ Assign ∷ Comma ∷ Semicolon ∷ Remainder ∷ Not ∷ Period ∷ Colon ∷ Tilde ∷ []

-- the operators among `os` that begin with the byte `first`
abbrev pub operators_with : ℕ → List Operator → List Operator
operators_with first os = filter (λ o. slice_index (operator_spelling o) 0 == first) os

-- an operator of two or three bytes may begin with these two: the second one is `-`, `=` or `^`, or it is the first one again
abbrev pub may_join : ℕ → ℕ → Bool
may_join first second = (second == 45 || (second == 61 || second == 94)) ||
    (second == first && (first == 38 || (first == 43 || (first == 46 || (first == 60 || (first == 62 || first == 124))))))
