-- The answers to the goals of `token_classes::step`.
use Rattle.std.proofs.Common.{sym, ◌∙◌}
use Rattle.go_ast.specs.Grammar.{is_step}
use Rattle.go_parser.proofs.WordSteps.{read_class, token_refused, end_refused, step_class, step_refused}
use Rattle.go_parser.proofs.token_classes.step.Goals as goal

pub returns-in_default : goal.returns-in_default
returns-in_default c = end_refused is_step _ c.in_default.ensures c.bad_token.ensures

pub returns-in_default-step_op : goal.returns-in_default-step_op
returns-in_default-step_op c = token_refused is_step _ c.in-Some.first c.in-Some.ensures (step_refused _ (sym c.step_op.ensures ∙ c.in_default-step_op.is))
    c.bad_token-in_default-step_op.ensures

pub returns : goal.returns
returns c = read_class is_step _ c.in-Some.first c.in-Some.ensures (step_class _ _ (sym c.step_op.ensures ∙ c.in-Some-step_op.is)).0
    (step_class _ _ (sym c.step_op.ensures ∙ c.in-Some-step_op.is)).1
