-- The answers to the goals of `laws::journals_are_legal`.
use Rattle.history_machine.proofs.Journaled.{has_entries}
use Rattle.history_machine.proofs.Legal.{runs_are_legal}
use Rattle.history_machine.proofs.laws.journals_are_legal.Goals as goal

pub returns-clause-entries : goal.returns-clause-entries
returns-clause-entries c = has_entries

pub returns-clause-legal : goal.returns-clause-legal
returns-clause-legal c = runs_are_legal
