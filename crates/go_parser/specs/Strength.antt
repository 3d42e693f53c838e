-- The precedence of binary operators (Go specification, "Operator precedence").
use Rattle.std.specs.Prelude.{ℕ, List, [], ◌∷◌, Option, Some, None}
use Rattle.go_ast.specs.declared.syntax.Token.{Token}
use Rattle.go_ast.specs.declared.syntax.BinaryOp.{BinaryOp}
use Rattle.go_ast.specs.Grammar.{binary_of}
use Rattle.go_ast.specs.WellFormed.{strength}

-- the precedence of an optional operator, 0 without one
abbrev pub strength_if : Option BinaryOp → ℕ
strength_if None = 0
strength_if (Some op) = strength op

-- the precedence of the binary operator that the tokens begin with, or 0
abbrev pub strength_at : List Token → ℕ
strength_at [] = 0
strength_at (t ∷ ts) = strength_if (binary_of t.kind)
