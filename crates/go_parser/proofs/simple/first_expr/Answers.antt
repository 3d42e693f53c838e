-- The answers to the goals of `simple::first_expr`.
use Rattle.std.proofs.Common.{◌∷◌, ◌++◌, [], ap, ◌∙◌}
use Rattle.go_parser.proofs.SpelledSimple.{exprs_one}
use Rattle.go_parser.proofs.simple.first_expr.Goals as goal

pub returns-clause-spelled : goal.returns-clause-spelled
returns-clause-spelled c = exprs_one _ _ _ c.new-exprs.ensures.items c.in_ok-push.ensures.items

pub returns-clause-alone : goal.returns-clause-alone
returns-clause-alone c = c.in_ok-push.ensures.items ∙ ap (λ xs. xs ++ (record { value = c.args.value; comma = c.args.comma } ∷ [])) c.new-exprs.ensures.items
