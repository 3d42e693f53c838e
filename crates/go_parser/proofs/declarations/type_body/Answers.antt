-- The answers to the goals of `declarations::type_body`.
use Rattle.std.proofs.Common.{sym, ◌∙◌}
use Rattle.go_parser.specs.Machine.{first, last, later}
use Rattle.go_parser.proofs.MachineSteps.{exits, fails_first, fails_later, fails_rule, read_as, read_rule, read_then, read_to_close, tail_rule}
use Rattle.go_parser.proofs.SpelledDeclarations.{struct_spelled, type_body_spelled}
use Rattle.go_parser.proofs.FormedParts.{struct_formed, type_formed}
use Rattle.go_parser.proofs.declarations.type_body.Goals as goal

pub returns-in_err-at-clause-exact : goal.returns-in_err-at-clause-exact
returns-in_err-at-clause-exact c = exits _ _ _ _ c.in_err-at.field-0.0 c.from_residual.result c.from_residual.ensures.1
    (fails_rule (first (sym c.at.ensures ∙ c.if-at.true)) (fails_first c.in_err-at.ensures))

pub returns-in_err-open-clause-exact : goal.returns-in_err-open-clause-exact
returns-in_err-open-clause-exact c = exits _ _ _ _ c.in_err-open.field-0.0 c.from_residual-in_err-open.result c.from_residual-in_err-open.ensures.1
    (fails_rule (first (sym c.at.ensures ∙ c.if-at.true)) (fails_later c.in_ok-at.ensures (fails_first c.in_err-open.ensures)))

pub returns-in_err-fields-clause-exact : goal.returns-in_err-fields-clause-exact
returns-in_err-fields-clause-exact c = exits _ _ _ _ c.in_err-fields.field-0.0 c.from_residual-in_err-fields.result c.from_residual-in_err-fields.ensures.1
    (fails_rule (first (sym c.at.ensures ∙ c.if-at.true))
    (fails_later c.in_ok-at.ensures (fails_later c.in_ok-open.ensures.read (fails_first c.in_err-fields.ensures.exact))))

pub returns-then-at-clause-exact : goal.returns-then-at-clause-exact
returns-then-at-clause-exact c = read_as (read_rule (first (sym c.at.ensures ∙ c.if-at.true))
    (read_then c.in_ok-at.ensures (read_then c.in_ok-open.ensures.read (read_to_close c.in_ok-open.ensures.deeper c.in_ok-fields.ensures.exact))))
    (sym (struct_spelled _ _ _ _))

pub returns-then-at-2-clause-exact : goal.returns-then-at-2-clause-exact
returns-then-at-2-clause-exact c = tail_rule _ _ _ _ _ _ c.interface_body.result
    (later (sym c.at.ensures ∙ c.if-at.false) (first (sym c.at-2.ensures ∙ c.if-at-2.true))) c.interface_body.ensures.exact

pub returns-in_err-type_expr-clause-exact : goal.returns-in_err-type_expr-clause-exact
returns-in_err-type_expr-clause-exact c = exits _ _ _ _ c.in_err-type_expr.field-0.0 c.from_residual-in_err-type_expr.result
    c.from_residual-in_err-type_expr.ensures.1
    (fails_rule (later (sym c.at.ensures ∙ c.if-at.false) (later (sym c.at-2.ensures ∙ c.if-at-2.false) last)) c.in_err-type_expr.ensures)

pub returns-clause-exact : goal.returns-clause-exact
returns-clause-exact c = read_as (read_rule (later (sym c.at.ensures ∙ c.if-at.false) (later (sym c.at-2.ensures ∙ c.if-at-2.false) last))
    c.in_ok-type_expr.ensures) (sym (type_body_spelled _))

pub returns-then-at-clause-formed : goal.returns-then-at-clause-formed
returns-then-at-clause-formed c = struct_formed _ _ _ _ c.in_ok-fields.ensures.formed

pub returns-clause-formed : goal.returns-clause-formed
returns-clause-formed c = type_formed _
