-- The answers to the goals of `place_laws::faults_of_functions_stand_at_broken_rules`.
use Rattle.law_typing.proofs.PlaceLaws.{places}
use Rattle.law_typing.proofs.HeaderFaults.{function_told}
use Rattle.law_typing.proofs.place_laws.faults_of_functions_stand_at_broken_rules.Goals as goal

pub returns : goal.returns
returns c = λ w is_init s f p. places (function_told w is_init) s f p
