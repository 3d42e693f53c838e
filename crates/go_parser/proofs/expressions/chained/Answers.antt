-- The answers to the goals of `expressions::chained`.
use Rattle.std.proofs.Common.{◌++◌, ap, sym, subst, ◌∙◌}
use Rattle.go_ast.specs.View.{expr_view}
use Rattle.go_parser.specs.Grouping.{IsOperand}
use Rattle.go_parser.specs.Spelling.{expr_spelled, link_spelled}
use Rattle.go_ast.specs.Flatten.{all_tokens}
use Rattle.go_parser.proofs.Grouping.{chain_grouped, named_chain_grouped}
use Rattle.go_parser.proofs.Spelled.{chain_tokens, name_tokens, named_chain_tokens}
use Rattle.go_parser.proofs.expressions.chained.Goals as goal

pub returns-in-Name-clause-tokens : goal.returns-in-Name-clause-tokens
returns-in-Name-clause-tokens c = named_chain_tokens c.in-Name.name c.args.links
    ∙ ap (λ x. x ++ all_tokens link_spelled c.args.links.items) (sym (name_tokens c.in-Name.name) ∙ ap expr_spelled (sym c.in-Name.is))

pub returns-in-Name-clause-grouped : goal.returns-in-Name-clause-grouped
returns-in-Name-clause-grouped c h operand each some = named_chain_grouped h c.in-Name.name c.args.links each some

pub returns-in_ok-first-in_default-clause-tokens : goal.returns-in_ok-first-in_default-clause-tokens
returns-in_ok-first-in_default-clause-tokens c = chain_tokens c.in_ok-first-in_default.first c.args.links
    ∙ ap (λ e. expr_spelled e ++ all_tokens link_spelled c.args.links.items) c.in_ok-first-in_default.ensures.ok

pub returns-in_ok-first-in_default-clause-grouped : goal.returns-in_ok-first-in_default-clause-grouped
returns-in_ok-first-in_default-clause-grouped c h operand each some = chain_grouped h c.in_ok-first-in_default.first c.args.links
    (subst (λ e. IsOperand h (expr_view e)) (sym c.in_ok-first-in_default.ensures.ok) operand) each some
