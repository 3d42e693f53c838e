-- The answers to the goals of `token_classes::set`.
use Rattle.std.proofs.Common.{sym, ◌∙◌}
use Rattle.go_ast.specs.Grammar.{may_set}
use Rattle.go_parser.specs.TokenClasses.{setting_of}
use Rattle.go_parser.proofs.WordSteps.{read_class, token_refused, end_refused, set_class, set_refused, set_allowed}
use Rattle.go_parser.proofs.token_classes.set.Goals as goal

pub returns-in_default-clause-exact : goal.returns-in_default-clause-exact
returns-in_default-clause-exact c = end_refused (may_set (setting_of c.args.setting)) _ c.in_default.ensures c.bad_token.ensures

pub returns-in_default-set_op-clause-exact : goal.returns-in_default-set_op-clause-exact
returns-in_default-set_op-clause-exact c = token_refused (may_set (setting_of c.args.setting)) _ c.in-Some.first c.in-Some.ensures
    (set_refused _ _ (sym c.set_op.ensures ∙ c.in_default-set_op.is)) c.bad_token-in_default-set_op.ensures

pub returns-clause-exact : goal.returns-clause-exact
returns-clause-exact c = read_class (may_set (setting_of c.args.setting)) _ c.in-Some.first c.in-Some.ensures
    (set_class _ _ _ (sym c.set_op.ensures ∙ c.in-Some-set_op.is)).0 (set_class _ _ _ (sym c.set_op.ensures ∙ c.in-Some-set_op.is)).1

pub returns-clause-allowed : goal.returns-clause-allowed
returns-clause-allowed c = set_allowed c.args.setting _ _ (sym c.set_op.ensures ∙ c.in-Some-set_op.is)
