-- The precedence of operators, and of expressions by their operators.
use Rattle.std.proofs.Common.{ℕ, ◌≡◌, ◌≤◌, ◌<◌, Bool, true, false, List, [], ◌∷◌, arith, refl, Option, Some, None, Result, Ok, Err, lit≤}
use Rattle.std.specs.Result.{IfOk}
use Rattle.go_ast.specs.declared.syntax.Token.{Token}
use Rattle.go_parser.specs.declared.parse_error.ParseError.{ParseError}
use Rattle.go_ast.specs.declared.syntax.BinaryOp.{BinaryOp}
use Rattle.go_ast.specs.declared.syntax.BinaryOp.TheVariants as binary
use Rattle.go_ast.specs.Grammar.{A, Expression, Unary, Binaries, is_binary, is_some, binary_of}
use Rattle.go_parser.specs.Machine.{at, later, last, expand}
use Rattle.go_parser.specs.Parsing.{LeadsTo, Parses}
use Rattle.go_ast.specs.WellFormed.{strength}
use Rattle.go_parser.specs.Strength.{strength_if, strength_at}
use Rattle.go_parser.proofs.MachineSteps.{fails_rule}

pub strength_some : (op : BinaryOp) → 1 ≤ strength op
strength_some binary.Multiply = lit≤ tt
strength_some binary.Divide = lit≤ tt
strength_some binary.Remainder = lit≤ tt
strength_some binary.Add = lit≤ tt
strength_some binary.Subtract = lit≤ tt
strength_some binary.Equal = lit≤ tt
strength_some binary.NotEqual = lit≤ tt
strength_some binary.Less = lit≤ tt
strength_some binary.LessEqual = lit≤ tt
strength_some binary.Greater = lit≤ tt
strength_some binary.GreaterEqual = lit≤ tt
strength_some binary.And = lit≤ tt
strength_some binary.Or = lit≤ tt

strength_most : (op : BinaryOp) → strength op ≤ 5
strength_most binary.Multiply = lit≤ tt
strength_most binary.Divide = lit≤ tt
strength_most binary.Remainder = lit≤ tt
strength_most binary.Add = lit≤ tt
strength_most binary.Subtract = lit≤ tt
strength_most binary.Equal = lit≤ tt
strength_most binary.NotEqual = lit≤ tt
strength_most binary.Less = lit≤ tt
strength_most binary.LessEqual = lit≤ tt
strength_most binary.Greater = lit≤ tt
strength_most binary.GreaterEqual = lit≤ tt
strength_most binary.And = lit≤ tt
strength_most binary.Or = lit≤ tt

strength_if_most : (o : Option BinaryOp) → strength_if o ≤ 5
strength_if_most None = lit≤ tt
strength_if_most (Some op) = strength_most op

pub strength_at_most : (ts : List Token) → strength_at ts ≤ 5
strength_at_most [] = lit≤ tt
strength_at_most (t ∷ ts) = strength_if_most (binary_of t.kind)

none_weak : (o : Option BinaryOp) → strength_if o < 1 → is_some o ≡ false
none_weak None h = refl
none_weak (Some op) h = absurd (let g = strength_some op in omega (arith, g, h))

some_strong : (o : Option BinaryOp) → 1 ≤ strength_if o → is_some o ≡ true
some_strong None h = absurd (omega (arith, h))
some_strong (Some op) h = refl

pub no_operator : (ts : List Token) → strength_at ts < 1 → at is_binary ts ≡ false
no_operator [] h = refl
no_operator (t ∷ ts) h = none_weak (binary_of t.kind) h

pub some_operator : (ts : List Token) → 1 ≤ strength_at ts → at is_binary ts ≡ true
some_operator [] h = absurd (omega (arith, h))
some_operator (t ∷ ts) h = some_strong (binary_of t.kind) h

-- operands joined by all operators are an expression
pub as_expression : {Y : Type 0} (h : Bool) (spelled rest : Y → List Token) (d : ℕ) (ts : List Token) (r : Result Y ParseError) →
    LeadsTo (A (Unary h) ∷ A (Binaries h) ∷ []) (A (Binaries h) ∷ []) spelled rest d ts r → IfOk r (λ y. strength_at (rest y) < 1) →
    Parses (A (Expression h) ∷ []) spelled rest d ts r
as_expression h spelled rest d ts (Ok y) l w = record {
  text = l.text;
  passes = record { runs = λ after o r. expand last (l.leads after o (expand (later (no_operator (rest y) w) last) r)) };
}
as_expression h spelled rest d ts (Err e) f w = fails_rule last f
