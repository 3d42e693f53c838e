-- The answers to the goals of `simple::several_set`.
use Rattle.std.proofs.Common.{◌∷◌, [], sym, refl}
use Rattle.go_ast.specs.declared.syntax.Kind.TheVariants as kind
use Rattle.go_ast.specs.Grammar.{A, Expressions, One, in_head, is, may_set}
use Rattle.go_parser.specs.Spelling.{expr_spelled}
use Rattle.go_parser.specs.TokenClasses.{setting_of}
use Rattle.go_parser.proofs.MachineSteps.{exits, fails_first, fails_later}
use Rattle.go_parser.proofs.StatementSteps.{continued, continued_on, continues_then}
use Rattle.go_parser.proofs.FormedStatements.{begun_list}
use Rattle.go_parser.proofs.simple.several_set.Goals as goal

pub returns-in_err-comma-clause-exact : goal.returns-in_err-comma-clause-exact
returns-in_err-comma-clause-exact c = exits _ _ _ _ c.in_err-comma.field-0.0 c.from_residual.result c.from_residual.ensures.1
    (fails_first c.in_err-comma.ensures)

pub returns-in_err-left-clause-exact : goal.returns-in_err-left-clause-exact
returns-in_err-left-clause-exact c = exits _ _ _ _ c.in_err-left.field-0.0 c.from_residual-in_err-left.result c.from_residual-in_err-left.ensures.1
    (fails_later c.in_ok-comma.ensures (fails_first c.in_err-left.ensures.exact))

pub returns-clause-exact : goal.returns-clause-exact
returns-clause-exact c = continues_then (One (is kind.Comma) ∷ A (Expressions (in_head (setting_of c.args.setting))) ∷ [])
    (One (may_set (setting_of c.args.setting)) ∷ A (Expressions (in_head (setting_of c.args.setting))) ∷ []) _ _ _ _ _ _ _ c.assignment.result
    (continued_on (continued (expr_spelled c.args.first) c.in_ok-comma.ensures (sym c.in_ok-begun.ensures.spelled)) c.in_ok-left.ensures.exact)
    c.assignment.ensures.exact

pub more_exprs-requires : goal.more_exprs-requires
more_exprs-requires c = begun_list _ _ _ c.in_ok-begun.ensures.alone c.requires refl

pub assignment-requires : goal.assignment-requires
assignment-requires c = c.in_ok-left.ensures.formed

pub returns-clause-formed : goal.returns-clause-formed
returns-clause-formed c = c.assignment.ensures.formed
