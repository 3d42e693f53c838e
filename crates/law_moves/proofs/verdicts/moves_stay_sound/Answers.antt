-- The answers to the goals of `verdicts::moves_stay_sound`.
use Rattle.law_moves.proofs.MovedVerdictsLaws.{stays_sound}
use Rattle.law_moves.proofs.verdicts.moves_stay_sound.Goals as goal

pub returns : goal.returns
returns c = stays_sound
