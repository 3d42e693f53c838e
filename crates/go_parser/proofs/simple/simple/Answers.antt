-- The answers to the goals of `simple::simple`.
use Rattle.std.proofs.Common.{◌∷◌, []}
use Rattle.go_ast.specs.Grammar.{A, Expression, SimpleRest, in_head}
use Rattle.go_parser.specs.TokenClasses.{setting_of}
use Rattle.go_parser.proofs.MachineSteps.{exits, fails_first}
use Rattle.go_parser.proofs.StatementSteps.{then_continues}
use Rattle.go_parser.proofs.simple.simple.Goals as goal

pub returns-in_err-first-clause-exact : goal.returns-in_err-first-clause-exact
returns-in_err-first-clause-exact c = exits _ _ _ _ c.in_err-first.field-0.0 c.from_residual.result c.from_residual.ensures.1
    (fails_first c.in_err-first.ensures.exact)

pub returns-clause-exact : goal.returns-clause-exact
returns-clause-exact c = then_continues (A (Expression (in_head (setting_of c.args.setting))) ∷ []) (A (SimpleRest (setting_of c.args.setting)) ∷ []) _ _ _
    _ _ _ c.simple_rest.result c.in_ok-first.ensures.exact c.simple_rest.ensures.exact

pub simple_rest-requires : goal.simple_rest-requires
simple_rest-requires c = c.in_ok-first.ensures.formed

pub returns-clause-formed : goal.returns-clause-formed
returns-clause-formed c = c.simple_rest.ensures.formed
