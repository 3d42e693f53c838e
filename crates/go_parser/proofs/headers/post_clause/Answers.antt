-- The answers to the goals of `headers::post_clause`.
use Rattle.std.proofs.Common.{sym, ◌∙◌}
use Rattle.go_parser.specs.Machine.{first, last, later}
use Rattle.go_parser.proofs.MachineSteps.{exits, fails_first, fails_later, fails_rule, read_end, read_rule, read_then}
use Rattle.go_parser.proofs.headers.post_clause.Goals as goal

pub returns-in_err-semicolon-clause-exact : goal.returns-in_err-semicolon-clause-exact
returns-in_err-semicolon-clause-exact c = exits _ _ _ _ c.in_err-semicolon.field-0.0 c.from_residual.result c.from_residual.ensures.1
    (fails_first c.in_err-semicolon.ensures)

pub returns-then-not-begins_expression-clause-exact : goal.returns-then-not-begins_expression-clause-exact
returns-then-not-begins_expression-clause-exact c =
    read_then c.in_ok-semicolon.ensures (read_rule (later (sym c.begins_expression.ensures ∙ c.if-not-begins_expression.true) last) read_end)

pub returns-in_err-post-clause-exact : goal.returns-in_err-post-clause-exact
returns-in_err-post-clause-exact c = exits _ _ _ _ c.in_err-post.field-0.0 c.from_residual-in_err-post.result c.from_residual-in_err-post.ensures.1
    (fails_later c.in_ok-semicolon.ensures (fails_rule (first (sym c.begins_expression.ensures ∙ c.if-not-begins_expression.false))
    c.in_err-post.ensures.exact))

pub returns-clause-exact : goal.returns-clause-exact
returns-clause-exact c = read_then c.in_ok-semicolon.ensures
    (read_rule (first (sym c.begins_expression.ensures ∙ c.if-not-begins_expression.false)) c.in_ok-post.ensures.exact)

pub returns-then-not-begins_expression-clause-formed : goal.returns-then-not-begins_expression-clause-formed
returns-then-not-begins_expression-clause-formed c = tt

pub returns-clause-formed : goal.returns-clause-formed
returns-clause-formed c = c.in_ok-post.ensures.formed
