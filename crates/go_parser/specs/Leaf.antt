-- Operands of one token, names excepted.
use Rattle.std.specs.Prelude.{ℕ, Option, Some, None}
use Rattle.go_ast.specs.declared.syntax.Kind.{Kind}
use Rattle.go_ast.specs.declared.syntax.Kind.TheVariants.{Number, Text, Blank}
use Rattle.go_ast.specs.declared.tree.Expr.{Expr}
use Rattle.go_ast.specs.declared.tree.Expr.TheVariants as expr

-- the operand that a token of this kind at index p is by itself, if any
abbrev pub leaf_of : Kind → ℕ → Option Expr
leaf_of Number p = Some (expr.Number p)
leaf_of Text p = Some (expr.Text p)
leaf_of Blank p = Some (expr.Blank p)
leaf_of _ p = None
