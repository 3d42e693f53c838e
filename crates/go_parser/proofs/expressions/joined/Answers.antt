-- The answers to the goals of `expressions::joined`.
use Rattle.std.proofs.Common.{◌<◌, ◌++◌, ap, sym, subst, ◌∙◌}
use Rattle.go_ast.specs.Flatten.{all_tokens}
use Rattle.go_ast.specs.View.{expr_view}
use Rattle.go_ast.specs.WellFormed.{IsExprIn, strength_of}
use Rattle.go_parser.specs.Spelling.{expr_spelled, operand_spelled}
use Rattle.go_parser.proofs.Grouping.{joined_binary, joined_name}
use Rattle.go_parser.proofs.Spelled.{binary_tokens, name_tokens, named_binary_tokens}
use Rattle.go_parser.proofs.expressions.joined.Goals as goal

pub returns-in-Name-clause-tokens : goal.returns-in-Name-clause-tokens
returns-in-Name-clause-tokens c = named_binary_tokens c.in-Name.name c.args.operands
    ∙ ap (λ x. x ++ all_tokens operand_spelled c.args.operands.items) (sym (name_tokens c.in-Name.name) ∙ ap expr_spelled (sym c.in-Name.is))

pub returns-in-Name-clause-grouped : goal.returns-in-Name-clause-grouped
returns-in-Name-clause-grouped c h k w strong each some =
    joined_name h k c.in-Name.name c.args.operands (subst (λ e. IsExprIn h (expr_view e)) c.in-Name.is w)
    (subst (λ e. k < strength_of (expr_view e)) c.in-Name.is strong) each some

pub returns-in_ok-first-in_default-clause-tokens : goal.returns-in_ok-first-in_default-clause-tokens
returns-in_ok-first-in_default-clause-tokens c = binary_tokens c.in_ok-first-in_default.first c.args.operands
    ∙ ap (λ e. expr_spelled e ++ all_tokens operand_spelled c.args.operands.items) c.in_ok-first-in_default.ensures.ok

pub returns-in_ok-first-in_default-clause-grouped : goal.returns-in_ok-first-in_default-clause-grouped
returns-in_ok-first-in_default-clause-grouped c h k w strong each some =
    let is = sym c.in_ok-first-in_default.ensures.ok in
    joined_binary h k c.in_ok-first-in_default.first c.args.operands (subst (λ e. IsExprIn h (expr_view e)) is w)
    (subst (λ e. k < strength_of (expr_view e)) is strong) each some
