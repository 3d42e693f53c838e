-- The answers to the goals of `place_laws::faults_of_declarations_stand_at_broken_rules`.
use Rattle.law_typing.proofs.PlaceLaws.{places}
use Rattle.law_typing.proofs.DeclarationFaults.{decl_told}
use Rattle.law_typing.proofs.place_laws.faults_of_declarations_stand_at_broken_rules.Goals as goal

pub returns : goal.returns
returns c = λ w is_init s d p. places (decl_told w is_init) s d p
