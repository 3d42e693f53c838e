-- The answers to the goals of `two_steps::files_in_two_steps`.
use Rattle.law_gained_names.proofs.TwoStepsFiles.{calls_in_two_steps, files_in_two_steps, places_in_two_steps}
use Rattle.law_gained_names.proofs.two_steps.files_in_two_steps.Goals as goal

pub returns : goal.returns
returns c = record { files = files_in_two_steps; places = places_in_two_steps; names = calls_in_two_steps }
