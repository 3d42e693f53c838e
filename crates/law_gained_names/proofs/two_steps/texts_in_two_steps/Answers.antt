-- The answer to the goal of `two_steps::texts_in_two_steps`.
use Rattle.law_gained_names.proofs.Texts.{texts_in_two_steps}
use Rattle.law_gained_names.proofs.two_steps.texts_in_two_steps.Goals as goal

pub returns : goal.returns
returns c = texts_in_two_steps
