-- The answers to the goals of `gained_steps::gained_names_are_steps`.
use Rattle.law_gained_names.proofs.Steps.{gained_names_are_steps, own_names_are_steps}
use Rattle.law_gained_names.proofs.gained_steps.gained_names_are_steps.Goals as goal

pub returns : goal.returns
returns c = record { steps = gained_names_are_steps; own = own_names_are_steps }
