-- The answers to the goals of `moves::moves_keep_sound_bindings`.
use Rattle.law_plans.proofs.MovedSound.{moves_keep_sound}
use Rattle.law_plans.proofs.moves.moves_keep_sound_bindings.Goals as goal

pub returns : goal.returns
returns c = moves_keep_sound
