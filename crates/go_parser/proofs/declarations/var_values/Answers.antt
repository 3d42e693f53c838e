-- The answers to the goals of `declarations::var_values`.
use Rattle.std.proofs.Common.{sym, ◌∙◌}
use Rattle.go_parser.specs.Machine.{first, last, later}
use Rattle.go_parser.proofs.MachineSteps.{exits, fails_first, fails_later, fails_rule, read_end, read_rule, read_then}
use Rattle.go_parser.proofs.declarations.var_values.Goals as goal

pub returns-then-not-at-clause-exact : goal.returns-then-not-at-clause-exact
returns-then-not-at-clause-exact c = read_rule (later (sym c.at.ensures ∙ c.if-not-at.true) last) read_end

pub returns-in_err-assign-clause-exact : goal.returns-in_err-assign-clause-exact
returns-in_err-assign-clause-exact c = exits _ _ _ _ c.in_err-assign.field-0.0 c.from_residual.result c.from_residual.ensures.1
    (fails_rule (first (sym c.at.ensures ∙ c.if-not-at.false)) (fails_first c.in_err-assign.ensures))

pub returns-in_err-values-clause-exact : goal.returns-in_err-values-clause-exact
returns-in_err-values-clause-exact c = exits _ _ _ _ c.in_err-values.field-0.0 c.from_residual-in_err-values.result c.from_residual-in_err-values.ensures.1
    (fails_rule (first (sym c.at.ensures ∙ c.if-not-at.false)) (fails_later c.in_ok-assign.ensures c.in_err-values.ensures.exact))

pub returns-clause-exact : goal.returns-clause-exact
returns-clause-exact c = read_rule (first (sym c.at.ensures ∙ c.if-not-at.false)) (read_then c.in_ok-assign.ensures c.in_ok-values.ensures.exact)

pub returns-then-not-at-clause-formed : goal.returns-then-not-at-clause-formed
returns-then-not-at-clause-formed c = tt

pub returns-clause-formed : goal.returns-clause-formed
returns-clause-formed c = c.in_ok-values.ensures.formed
