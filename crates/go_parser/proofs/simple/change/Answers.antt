-- The answers to the goals of `simple::change`.
use Rattle.std.proofs.Common.{◌∷◌, ap, subst, sym}
use Rattle.go_ast.specs.Flatten.{sign, update_kind}
use Rattle.go_ast.specs.Grammar.{in_head}
use Rattle.go_ast.specs.View.{expr_view}
use Rattle.go_ast.specs.WellFormed.{IsExprIn}
use Rattle.go_parser.specs.Spelling.{expr_spelled}
use Rattle.go_parser.specs.TokenClasses.{setting_of}
use Rattle.go_parser.proofs.MachineSteps.{exits, fails_first, fails_later, read_as, read_then}
use Rattle.go_parser.proofs.simple.change.Goals as goal

pub returns-in_err-op-clause-exact : goal.returns-in_err-op-clause-exact
returns-in_err-op-clause-exact c = exits _ _ _ _ c.in_err-op.field-0.0 c.from_residual.result c.from_residual.ensures.1
    (fails_first c.in_err-op.ensures)

pub returns-in_err-value-clause-exact : goal.returns-in_err-value-clause-exact
returns-in_err-value-clause-exact c = exits _ _ _ _ c.in_err-value.field-0.0 c.from_residual-in_err-value.result c.from_residual-in_err-value.ensures.1
    (fails_later c.in_ok-op.ensures c.in_err-value.ensures.exact)

pub returns-clause-exact : goal.returns-clause-exact
returns-clause-exact c = read_as (read_then c.in_ok-op.ensures c.in_ok-value.ensures.exact)
    (ap (λ e. sign (update_kind c.in_ok-op.op) c.in_ok-op.at ∷ expr_spelled e) (sym c.in_ok-right.ensures.ok))

pub returns-clause-formed : goal.returns-clause-formed
returns-clause-formed c = subst (λ e. IsExprIn (in_head (setting_of c.args.setting)) (expr_view e)) (sym c.in_ok-right.ensures.ok)
    c.in_ok-value.ensures.formed
