-- The answers to the goals of `types::type_name`.
use Rattle.std.proofs.Common.{sym, ◌∙◌}
use Rattle.go_parser.specs.Machine.{first, later, last}
use Rattle.go_parser.proofs.MachineSteps.{exits, fails_first, fails_later, fails_rule, read_then, read_rule, read_end, read_as}
use Rattle.go_parser.proofs.Spelled.{local_type_tokens, imported_type_tokens}
use Rattle.go_parser.proofs.Grouping.{local_type_named, imported_type_named}
use Rattle.go_parser.proofs.types.type_name.Goals as goal

pub returns-then-not-at-clause-exact : goal.returns-then-not-at-clause-exact
returns-then-not-at-clause-exact c = read_as (read_then c.in_ok-first.ensures (read_rule (later (sym c.at.ensures ∙ c.if-not-at.true) last) read_end))
    (sym (local_type_tokens _))

pub returns-in_err-first-clause-exact : goal.returns-in_err-first-clause-exact
returns-in_err-first-clause-exact c = exits _ _ _ _ c.in_err-first.field-0.0 c.from_residual.result c.from_residual.ensures.1
    (fails_first c.in_err-first.ensures)

pub returns-in_err-dot-clause-exact : goal.returns-in_err-dot-clause-exact
returns-in_err-dot-clause-exact c = exits _ _ _ _ c.in_err-dot.field-0.0 c.from_residual-in_err-dot.result c.from_residual-in_err-dot.ensures.1
    (fails_later c.in_ok-first.ensures (fails_rule (first (sym c.at.ensures ∙ c.if-not-at.false)) (fails_first c.in_err-dot.ensures)))

pub returns-in_err-name-clause-exact : goal.returns-in_err-name-clause-exact
returns-in_err-name-clause-exact c = exits _ _ _ _ c.in_err-name.field-0.0 c.from_residual-in_err-name.result c.from_residual-in_err-name.ensures.1
    (fails_later c.in_ok-first.ensures (fails_rule (first (sym c.at.ensures ∙ c.if-not-at.false))
    (fails_later c.in_ok-dot.ensures (fails_first c.in_err-name.ensures))))

pub returns-clause-exact : goal.returns-clause-exact
returns-clause-exact c = read_as (read_then c.in_ok-first.ensures
    (read_rule (first (sym c.at.ensures ∙ c.if-not-at.false)) (read_then c.in_ok-dot.ensures c.in_ok-name.ensures))) (sym (imported_type_tokens _ _ _))

pub returns-then-not-at-clause-named : goal.returns-then-not-at-clause-named
returns-then-not-at-clause-named c = local_type_named _

pub returns-clause-named : goal.returns-clause-named
returns-clause-named c = imported_type_named _ _ _
