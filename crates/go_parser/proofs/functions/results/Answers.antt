-- The answers to the goals of `functions::results`.
use Rattle.std.proofs.Common.{sym, ◌∙◌}
use Rattle.go_parser.specs.Machine.{first, last, later}
use Rattle.go_parser.proofs.MachineSteps.{exits, fails_first, fails_later, fails_rule, read_as, read_end, read_rule, read_then, read_to_close}
use Rattle.go_parser.proofs.SpelledDeclarations.{no_results_spelled, one_result_spelled, several_results_spelled}
use Rattle.go_parser.proofs.FormedParts.{no_results_formed, one_result_formed, several_results_formed}
use Rattle.go_parser.proofs.functions.results.Goals as goal

pub returns-in_err-open-clause-exact : goal.returns-in_err-open-clause-exact
returns-in_err-open-clause-exact c = exits _ _ _ _ c.in_err-open.field-0.0 c.from_residual.result c.from_residual.ensures.1
    (fails_rule (first (sym c.at.ensures ∙ c.if-at.true)) (fails_first c.in_err-open.ensures))

pub returns-in_err-types-clause-exact : goal.returns-in_err-types-clause-exact
returns-in_err-types-clause-exact c = exits _ _ _ _ c.in_err-types.field-0.0 c.from_residual-in_err-types.result c.from_residual-in_err-types.ensures.1
    (fails_rule (first (sym c.at.ensures ∙ c.if-at.true)) (fails_later c.in_ok-open.ensures.read (fails_first c.in_err-types.ensures.exact)))

pub returns-then-at-clause-exact : goal.returns-then-at-clause-exact
returns-then-at-clause-exact c = read_as (read_rule (first (sym c.at.ensures ∙ c.if-at.true))
    (read_then c.in_ok-open.ensures.read (read_to_close c.in_ok-open.ensures.deeper c.in_ok-types.ensures.exact))) (sym (several_results_spelled _ _ _))

pub returns-then-not-begins_type-clause-exact : goal.returns-then-not-begins_type-clause-exact
returns-then-not-begins_type-clause-exact c = read_as
    (read_rule (later (sym c.at.ensures ∙ c.if-at.false) (later (sym c.begins_type.ensures ∙ c.if-not-begins_type.true) last)) read_end)
    (sym no_results_spelled)

pub returns-in_err-single-clause-exact : goal.returns-in_err-single-clause-exact
returns-in_err-single-clause-exact c = exits _ _ _ _ c.in_err-single.field-0.0 c.from_residual-in_err-single.result c.from_residual-in_err-single.ensures.1
    (fails_rule (later (sym c.at.ensures ∙ c.if-at.false) (first (sym c.begins_type.ensures ∙ c.if-not-begins_type.false))) c.in_err-single.ensures)

pub returns-clause-exact : goal.returns-clause-exact
returns-clause-exact c = read_as (read_rule (later (sym c.at.ensures ∙ c.if-at.false) (first (sym c.begins_type.ensures ∙ c.if-not-begins_type.false)))
    c.in_ok-single.ensures) (sym (one_result_spelled _))

pub returns-then-at-clause-formed : goal.returns-then-at-clause-formed
returns-then-at-clause-formed c = several_results_formed _ _ _ c.in_ok-types.ensures.formed

pub returns-then-not-begins_type-clause-formed : goal.returns-then-not-begins_type-clause-formed
returns-then-not-begins_type-clause-formed c = no_results_formed

pub returns-clause-formed : goal.returns-clause-formed
returns-clause-formed c = one_result_formed _
