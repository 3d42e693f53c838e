-- The answers to the goals of `place_laws::faults_of_blocks_stand_at_broken_rules`.
use Rattle.law_typing.proofs.PlaceLaws.{places}
use Rattle.law_typing.proofs.StatementFaults.{block_told}
use Rattle.law_typing.proofs.place_laws.faults_of_blocks_stand_at_broken_rules.Goals as goal

pub returns : goal.returns
returns c = λ w results s x p. places (block_told w results) s x p
