-- The answers to the goals of `two_steps::offsets_in_two_steps`.
use Rattle.law_gained_names.proofs.Names.{names_in_two_steps}
use Rattle.law_gained_names.proofs.TwoStepsOffsets.{offsets_in_two_steps}
use Rattle.law_gained_names.proofs.two_steps.offsets_in_two_steps.Goals as goal

pub returns : goal.returns
returns c = record { moved = offsets_in_two_steps; named = names_in_two_steps }
