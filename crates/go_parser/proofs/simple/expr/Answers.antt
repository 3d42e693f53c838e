-- The answers to the goals of `simple::expr`.
use Rattle.std.proofs.Common.{◌∷◌, []}
use Rattle.go_ast.specs.Grammar.{A, Expression}
use Rattle.go_ast.specs.View.{expr_view}
use Rattle.go_parser.specs.Spelling.{expr_spelled}
use Rattle.std.proofs.Common.{subst}
use Rattle.std.specs.Result.{IfOk}
use Rattle.go_ast.specs.WellFormed.{IsExprIn}
use Rattle.go_parser.specs.Parsing.{Parses}
use Rattle.go_parser.proofs.simple.expr.Goals as goal

pub returns-clause-exact : goal.returns-clause-exact
returns-clause-exact c = subst (λ h. Parses (A (Expression h) ∷ []) (λ x. expr_spelled x.0) (λ x. x.1.now) c.args.depth c.args.tokens.now
    c.expression.result) c.in_header.ensures c.expression.ensures.exact

pub returns-clause-formed : goal.returns-clause-formed
returns-clause-formed c = subst (λ h. IfOk c.expression.result (λ x. IsExprIn h (expr_view x.0))) c.in_header.ensures c.expression.ensures.grouped
