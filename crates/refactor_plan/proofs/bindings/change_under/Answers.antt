-- The answers to the goals of `bindings::change_under`.
use Rattle.refactor_plan.proofs.bindings.change_under.Goals as goal

pub returns : goal.returns
returns c = record { found = c.in_ok-place.place; first = c.in_ok-place.ensures; is_told = c.coupled_if.ensures }
