-- The answers to the goals of `expression_laws::meaningless_expressions_are_refused`.
use Rattle.law_typing.proofs.ExpressionLaws.{refused_or_meant}
use Rattle.law_typing.proofs.expression_laws.meaningless_expressions_are_refused.Goals as goal

pub returns : goal.returns
returns c = λ w locals e h. refused_or_meant w locals e h
