-- The answers to the goals of `two_steps::two_steps_exist`.
use Rattle.law_gained_names.proofs.Second.{second_steps_lie_within, two_steps_exist}
use Rattle.law_gained_names.proofs.two_steps.two_steps_exist.Goals as goal

pub returns : goal.returns
returns c = record { within = second_steps_lie_within; exist = two_steps_exist }
