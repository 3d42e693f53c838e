-- The part has no fault.
use Rattle.refactor_part.proofs.PartClosures.{part_sound, right_of_part, whole}
use Rattle.refactor_part.proofs.laws.parts_are_faultless.Goals as goal

pub returns-clause-sound : goal.returns-clause-sound
returns-clause-sound c = part_sound

pub returns-clause-right : goal.returns-clause-right
returns-clause-right c = right_of_part

pub returns-clause-whole : goal.returns-clause-whole
returns-clause-whole c = whole
