-- The answers to the goals of `expression_laws::faults_stand_at_broken_rules`.
use Rattle.law_typing.proofs.ExpressionLaws.{faults_placed}
use Rattle.law_typing.proofs.expression_laws.faults_stand_at_broken_rules.Goals as goal

pub returns : goal.returns
returns c = λ w locals e. faults_placed w locals e
