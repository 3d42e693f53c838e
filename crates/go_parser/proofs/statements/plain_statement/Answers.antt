-- The answers to the goals of `statements::plain_statement`.
use Rattle.std.proofs.Common.{sym, ◌∙◌}
use Rattle.go_parser.specs.Machine.{first, last, later}
use Rattle.go_parser.proofs.MachineSteps.{exits, fails_first, fails_later, fails_rule, read_as, read_end, read_rule, read_then}
use Rattle.go_parser.proofs.FormedStatements.{break_formed, continue_formed, empty_formed, return_formed, simple_stmt_formed}
use Rattle.go_parser.proofs.SpelledStatements.{break_spelled, continue_spelled, empty_spelled, return_spelled, simple_stmt_spelled}
use Rattle.go_parser.proofs.statements.plain_statement.Goals as goal

pub returns-in_err-at-clause-exact : goal.returns-in_err-at-clause-exact
returns-in_err-at-clause-exact c = exits _ _ _ _ c.in_err-at.field-0.0 c.from_residual.result c.from_residual.ensures.1
    (fails_rule (later c.requires.var (later c.requires.block (later c.requires.branch (later c.requires.loops (first (sym c.at.ensures ∙ c.if-at.true))))))
    c.in_err-at.ensures)

pub returns-then-at-clause-exact : goal.returns-then-at-clause-exact
returns-then-at-clause-exact c = read_as (read_rule
    (later c.requires.var (later c.requires.block (later c.requires.branch (later c.requires.loops (first (sym c.at.ensures ∙ c.if-at.true))))))
    c.in_ok-at.ensures) (sym (break_spelled _))

pub returns-in_err-place-clause-exact : goal.returns-in_err-place-clause-exact
returns-in_err-place-clause-exact c = exits _ _ _ _ c.in_err-place.field-0.0 c.from_residual-in_err-place.result c.from_residual-in_err-place.ensures.1
    (fails_rule (later c.requires.var (later c.requires.block
    (later c.requires.branch (later c.requires.loops (later (sym c.at.ensures ∙ c.if-at.false) (first (sym c.at-2.ensures ∙ c.if-at-2.true)))))))
    c.in_err-place.ensures)

pub returns-then-at-2-clause-exact : goal.returns-then-at-2-clause-exact
returns-then-at-2-clause-exact c = read_as (read_rule
    (later c.requires.var (later c.requires.block
    (later c.requires.branch (later c.requires.loops (later (sym c.at.ensures ∙ c.if-at.false) (first (sym c.at-2.ensures ∙ c.if-at-2.true)))))))
    c.in_ok-place.ensures) (sym (continue_spelled _))

pub returns-in_err-word-clause-exact : goal.returns-in_err-word-clause-exact
returns-in_err-word-clause-exact c = exits _ _ _ _ c.in_err-word.field-0.0 c.from_residual-in_err-word.result c.from_residual-in_err-word.ensures.1
    (fails_rule (later c.requires.var (later c.requires.block
    (later c.requires.branch (later c.requires.loops
    (later (sym c.at.ensures ∙ c.if-at.false) (later (sym c.at-2.ensures ∙ c.if-at-2.false) (first (sym c.at-3.ensures ∙ c.if-at-3.true))))))))
    (fails_first c.in_err-word.ensures))

pub returns-in_err-values-clause-exact : goal.returns-in_err-values-clause-exact
returns-in_err-values-clause-exact c = exits _ _ _ _ c.in_err-values.field-0.0 c.from_residual-in_err-values.result c.from_residual-in_err-values.ensures.1
    (fails_rule (later c.requires.var (later c.requires.block
    (later c.requires.branch (later c.requires.loops
    (later (sym c.at.ensures ∙ c.if-at.false) (later (sym c.at-2.ensures ∙ c.if-at-2.false) (first (sym c.at-3.ensures ∙ c.if-at-3.true))))))))
    (fails_later c.in_ok-word.ensures c.in_err-values.ensures.exact))

pub returns-then-at-3-clause-exact : goal.returns-then-at-3-clause-exact
returns-then-at-3-clause-exact c = read_as (read_rule
    (later c.requires.var (later c.requires.block
    (later c.requires.branch (later c.requires.loops
    (later (sym c.at.ensures ∙ c.if-at.false) (later (sym c.at-2.ensures ∙ c.if-at-2.false) (first (sym c.at-3.ensures ∙ c.if-at-3.true))))))))
    (read_then c.in_ok-word.ensures c.in_ok-values.ensures.exact)) (sym (return_spelled _ _))

pub returns-in_err-simple-clause-exact : goal.returns-in_err-simple-clause-exact
returns-in_err-simple-clause-exact c = exits _ _ _ _ c.in_err-simple.field-0.0 c.from_residual-in_err-simple.result c.from_residual-in_err-simple.ensures.1
    (fails_rule (later c.requires.var (later c.requires.block
    (later c.requires.branch (later c.requires.loops
    (later (sym c.at.ensures ∙ c.if-at.false)
    (later (sym c.at-2.ensures ∙ c.if-at-2.false)
    (later (sym c.at-3.ensures ∙ c.if-at-3.false) (first (sym c.begins_expression.ensures ∙ c.if-begins_expression.true)))))))))
    c.in_err-simple.ensures.exact)

pub returns-then-begins_expression-clause-exact : goal.returns-then-begins_expression-clause-exact
returns-then-begins_expression-clause-exact c = read_as
    (read_rule (later c.requires.var
    (later c.requires.block (later c.requires.branch
    (later c.requires.loops (later (sym c.at.ensures ∙ c.if-at.false)
    (later (sym c.at-2.ensures ∙ c.if-at-2.false)
    (later (sym c.at-3.ensures ∙ c.if-at-3.false) (first (sym c.begins_expression.ensures ∙ c.if-begins_expression.true)))))))))
    c.in_ok-simple.ensures.exact) (sym (simple_stmt_spelled _))

pub returns-clause-exact : goal.returns-clause-exact
returns-clause-exact c = read_as (read_rule (later c.requires.var
    (later c.requires.block (later c.requires.branch
    (later c.requires.loops (later (sym c.at.ensures ∙ c.if-at.false)
    (later (sym c.at-2.ensures ∙ c.if-at-2.false)
    (later (sym c.at-3.ensures ∙ c.if-at-3.false) (later (sym c.begins_expression.ensures ∙ c.if-begins_expression.false) last)))))))) read_end)
    (sym empty_spelled)

pub returns-then-at-clause-formed : goal.returns-then-at-clause-formed
returns-then-at-clause-formed c = break_formed _

pub returns-then-at-2-clause-formed : goal.returns-then-at-2-clause-formed
returns-then-at-2-clause-formed c = continue_formed _

pub returns-then-at-3-clause-formed : goal.returns-then-at-3-clause-formed
returns-then-at-3-clause-formed c = return_formed _ _ c.in_ok-values.ensures.formed

pub returns-then-begins_expression-clause-formed : goal.returns-then-begins_expression-clause-formed
returns-then-begins_expression-clause-formed c = simple_stmt_formed _ c.in_ok-simple.ensures.formed

pub returns-clause-formed : goal.returns-clause-formed
returns-clause-formed c = empty_formed
