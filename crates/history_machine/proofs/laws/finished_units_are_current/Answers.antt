-- The answers to the goals of `laws::finished_units_are_current`.
use Rattle.history_machine.proofs.CurrentLaws.{steps_keep_units, finished_are_current}
use Rattle.history_machine.proofs.laws.finished_units_are_current.Goals as goal

pub returns-clause-steps : goal.returns-clause-steps
returns-clause-steps c = steps_keep_units

pub returns-clause-always : goal.returns-clause-always
returns-clause-always c = finished_are_current
