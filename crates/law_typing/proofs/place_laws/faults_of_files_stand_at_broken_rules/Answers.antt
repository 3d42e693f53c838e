-- The answers to the goals of `place_laws::faults_of_files_stand_at_broken_rules`.
use Rattle.law_typing.proofs.PlaceLaws.{file_places}
use Rattle.law_typing.proofs.place_laws.faults_of_files_stand_at_broken_rules.Goals as goal

pub returns : goal.returns
returns c = λ w is_init f p. file_places w is_init f p
