-- The answers to the goals of `place_laws::faults_of_expressions_stand_at_broken_rules`.
use Rattle.law_typing.proofs.PlaceLaws.{expression_places}
use Rattle.law_typing.proofs.place_laws.faults_of_expressions_stand_at_broken_rules.Goals as goal

pub returns : goal.returns
returns c = λ w locals e p. expression_places w locals e p
