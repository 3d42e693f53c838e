-- The answers to the goals of `simple::assignment`.
use Rattle.std.proofs.Common.{◌∷◌, ◌++◌, ap, sym, ◌∙◌}
use Rattle.go_ast.specs.Flatten.{sign}
use Rattle.go_parser.specs.Spelling.{exprs_spelled}
use Rattle.go_parser.specs.TokenClasses.{set_kind}
use Rattle.go_parser.proofs.MachineSteps.{exits, fails_first, fails_later, read_then}
use Rattle.go_parser.proofs.StatementSteps.{continued}
use Rattle.go_parser.proofs.FormedStatements.{assign_formed, define_formed}
use Rattle.go_parser.proofs.SpelledSimple.{assign_spelled, define_spelled}
use Rattle.go_parser.proofs.simple.assignment.Goals as goal

pub returns-in_err-op-clause-exact : goal.returns-in_err-op-clause-exact
returns-in_err-op-clause-exact c = exits _ _ _ _ c.in_err-op.field-0.0 c.from_residual.result c.from_residual.ensures.1
    (fails_first c.in_err-op.ensures.exact)

pub returns-in_err-right-clause-exact : goal.returns-in_err-right-clause-exact
returns-in_err-right-clause-exact c = exits _ _ _ _ c.in_err-right.field-0.0 c.from_residual-in_err-right.result c.from_residual-in_err-right.ensures.1
    (fails_later c.in_ok-op.ensures.exact c.in_err-right.ensures.exact)

pub returns-in-Assign-clause-exact : goal.returns-in-Assign-clause-exact
returns-in-Assign-clause-exact c = continued (exprs_spelled c.args.left.items) (read_then c.in_ok-op.ensures.exact c.in_ok-right.ensures.exact)
    (ap (λ k. (exprs_spelled c.args.left.items) ++ (sign (set_kind k) c.in_ok-op.at ∷ exprs_spelled c.in_ok-right.right.items)) c.in-Assign.is ∙
    sym (assign_spelled _ _ _))

pub returns-in-Define-clause-exact : goal.returns-in-Define-clause-exact
returns-in-Define-clause-exact c = continued (exprs_spelled c.args.left.items) (read_then c.in_ok-op.ensures.exact c.in_ok-right.ensures.exact)
    (ap (λ k. (exprs_spelled c.args.left.items) ++ (sign (set_kind k) c.in_ok-op.at ∷ exprs_spelled c.in_ok-right.right.items)) c.in-Define.is ∙
    sym (define_spelled _ _ _))

pub returns-in-Assign-clause-formed : goal.returns-in-Assign-clause-formed
returns-in-Assign-clause-formed c = assign_formed c.args.setting _ _ _ c.requires c.in_ok-right.ensures.formed

pub returns-in-Define-clause-formed : goal.returns-in-Define-clause-formed
returns-in-Define-clause-formed c = define_formed c.args.setting _ _ _ _ c.in-Define.is c.in_ok-op.ensures.allowed c.requires c.in_ok-right.ensures.formed
