-- The answers to the goals of `renames::renames_keep_sound_bindings`.
use Rattle.law_plans.proofs.RenamedSound.{renames_keep_sound}
use Rattle.law_plans.proofs.renames.renames_keep_sound_bindings.Goals as goal

pub returns : goal.returns
returns c = renames_keep_sound
