-- The answers to the goals of `expression_laws::faultless_expressions_have_meanings`.
use Rattle.law_typing.proofs.ExpressionLaws.{meant_without_faults}
use Rattle.law_typing.proofs.expression_laws.faultless_expressions_have_meanings.Goals as goal

pub returns : goal.returns
returns c = λ w locals e n. meant_without_faults w locals e n
