-- The answers to the goals of `expression_laws::expressions_are_judged_by_the_rules`.
use Rattle.law_typing.proofs.ExpressionLaws.{judged_by_the_rules}
use Rattle.law_typing.proofs.expression_laws.expressions_are_judged_by_the_rules.Goals as goal

pub returns : goal.returns
returns c = λ w locals e m. judged_by_the_rules w locals e m
