-- The answers to the goals of `locals::type_or_values`.
use Rattle.std.proofs.Common.{sym, ◌∙◌}
use Rattle.go_parser.specs.Machine.{first, last, later}
use Rattle.go_parser.proofs.MachineSteps.{exits, fails_first, fails_later, fails_rule, read_rule, read_then}
use Rattle.go_parser.proofs.FormedParts.{told_by_type, told_by_values}
use Rattle.go_parser.proofs.locals.type_or_values.Goals as goal

pub returns-in_err-only_values-clause-exact : goal.returns-in_err-only_values-clause-exact
returns-in_err-only_values-clause-exact c = exits _ _ _ _ c.in_err-only_values.field-0.0 c.from_residual.result c.from_residual.ensures.1
    (fails_rule (first (sym c.at.ensures ∙ c.if-at.true)) c.in_err-only_values.ensures.exact)

pub returns-then-at-clause-exact : goal.returns-then-at-clause-exact
returns-then-at-clause-exact c = read_rule (first (sym c.at.ensures ∙ c.if-at.true)) c.in_ok-only_values.ensures.exact

pub returns-in_err-local_type-clause-exact : goal.returns-in_err-local_type-clause-exact
returns-in_err-local_type-clause-exact c = exits _ _ _ _ c.in_err-local_type.field-0.0 c.from_residual-in_err-local_type.result
    c.from_residual-in_err-local_type.ensures.1
    (fails_rule (later (sym c.at.ensures ∙ c.if-at.false) last) (fails_first c.in_err-local_type.ensures))

pub returns-in_err-values-clause-exact : goal.returns-in_err-values-clause-exact
returns-in_err-values-clause-exact c = exits _ _ _ _ c.in_err-values.field-0.0 c.from_residual-in_err-values.result c.from_residual-in_err-values.ensures.1
    (fails_rule (later (sym c.at.ensures ∙ c.if-at.false) last) (fails_later c.in_ok-local_type.ensures c.in_err-values.ensures.exact))

pub returns-clause-exact : goal.returns-clause-exact
returns-clause-exact c = read_rule (later (sym c.at.ensures ∙ c.if-at.false) last) (read_then c.in_ok-local_type.ensures c.in_ok-values.ensures.exact)

pub returns-then-at-clause-formed : goal.returns-then-at-clause-formed
returns-then-at-clause-formed c = told_by_values _ c.in_ok-only_values.ensures.formed

pub returns-clause-formed : goal.returns-clause-formed
returns-clause-formed c = told_by_type _ _ c.in_ok-values.ensures.formed
