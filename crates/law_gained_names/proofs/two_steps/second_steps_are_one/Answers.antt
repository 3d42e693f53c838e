-- The answer to the goal of `two_steps::second_steps_are_one`.
use Rattle.law_gained_names.proofs.Members.{second_steps_are_one}
use Rattle.law_gained_names.proofs.two_steps.second_steps_are_one.Goals as goal

pub returns : goal.returns
returns c = second_steps_are_one
