-- The answers to the goals of `place_laws::faults_of_simple_statements_stand_at_broken_rules`.
use Rattle.law_typing.proofs.PlaceLaws.{places}
use Rattle.law_typing.proofs.SimpleFaults.{simple_told}
use Rattle.law_typing.proofs.place_laws.faults_of_simple_statements_stand_at_broken_rules.Goals as goal

pub returns : goal.returns
returns c = λ w s a p. places (simple_told w) s a p
