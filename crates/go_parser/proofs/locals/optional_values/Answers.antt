-- The answers to the goals of `locals::optional_values`.
use Rattle.std.proofs.Common.{sym, ◌∙◌}
use Rattle.go_parser.specs.Machine.{first, last, later}
use Rattle.go_parser.proofs.MachineSteps.{exits, fails_rule, read_end, read_rule}
use Rattle.go_parser.proofs.locals.optional_values.Goals as goal

pub returns-then-not-at-clause-exact : goal.returns-then-not-at-clause-exact
returns-then-not-at-clause-exact c = read_rule (later (sym c.at.ensures ∙ c.if-not-at.true) last) read_end

pub returns-in_err-values-clause-exact : goal.returns-in_err-values-clause-exact
returns-in_err-values-clause-exact c = exits _ _ _ _ c.in_err-values.field-0.0 c.from_residual.result c.from_residual.ensures.1
    (fails_rule (first (sym c.at.ensures ∙ c.if-not-at.false)) c.in_err-values.ensures.exact)

pub returns-clause-exact : goal.returns-clause-exact
returns-clause-exact c = read_rule (first (sym c.at.ensures ∙ c.if-not-at.false)) c.in_ok-values.ensures.exact

pub returns-then-not-at-clause-formed : goal.returns-then-not-at-clause-formed
returns-then-not-at-clause-formed c = tt

pub returns-clause-formed : goal.returns-clause-formed
returns-clause-formed c = c.in_ok-values.ensures.formed
