-- The answers to the goals of `token_classes::update`.
use Rattle.std.proofs.Common.{sym, ◌∙◌}
use Rattle.go_ast.specs.Grammar.{is_update}
use Rattle.go_parser.proofs.WordSteps.{read_class, token_refused, end_refused, update_class, update_refused}
use Rattle.go_parser.proofs.token_classes.update.Goals as goal

pub returns-in_default : goal.returns-in_default
returns-in_default c = end_refused is_update _ c.in_default.ensures c.bad_token.ensures

pub returns-in_default-update_op : goal.returns-in_default-update_op
returns-in_default-update_op c = token_refused is_update _ c.in-Some.first c.in-Some.ensures
    (update_refused _ (sym c.update_op.ensures ∙ c.in_default-update_op.is)) c.bad_token-in_default-update_op.ensures

pub returns : goal.returns
returns c = read_class is_update _ c.in-Some.first c.in-Some.ensures (update_class _ _ (sym c.update_op.ensures ∙ c.in-Some-update_op.is)).0
    (update_class _ _ (sym c.update_op.ensures ∙ c.in-Some-update_op.is)).1
