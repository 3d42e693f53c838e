-- The answers to the goals of `expression_laws::meanings_are_unique`.
use Rattle.law_typing.proofs.ExpressionLaws.{has_one_meaning}
use Rattle.law_typing.proofs.expression_laws.meanings_are_unique.Goals as goal

pub returns : goal.returns
returns c = λ w locals e m n h k. has_one_meaning w locals e m n h k
