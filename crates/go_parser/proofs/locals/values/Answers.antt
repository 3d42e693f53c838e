-- The answers to the goals of `locals::values`.
use Rattle.go_parser.proofs.MachineSteps.{exits, fails_first, fails_later, read_then}
use Rattle.go_parser.proofs.locals.values.Goals as goal

pub returns-in_err-assign-clause-exact : goal.returns-in_err-assign-clause-exact
returns-in_err-assign-clause-exact c = exits _ _ _ _ c.in_err-assign.field-0.0 c.from_residual.result c.from_residual.ensures.1
    (fails_first c.in_err-assign.ensures)

pub returns-in_err-values-clause-exact : goal.returns-in_err-values-clause-exact
returns-in_err-values-clause-exact c = exits _ _ _ _ c.in_err-values.field-0.0 c.from_residual-in_err-values.result c.from_residual-in_err-values.ensures.1
    (fails_later c.in_ok-assign.ensures c.in_err-values.ensures.exact)

pub returns-clause-exact : goal.returns-clause-exact
returns-clause-exact c = read_then c.in_ok-assign.ensures c.in_ok-values.ensures.exact

pub returns-clause-formed : goal.returns-clause-formed
returns-clause-formed c = c.in_ok-values.ensures.formed
