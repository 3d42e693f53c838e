-- The answers to the goals of `laws::numbers_are_used_once`.
use Rattle.history_machine.proofs.NumberLaws.{numbers_rise, numbers_are_new}
use Rattle.history_machine.proofs.laws.numbers_are_used_once.Goals as goal

pub returns-clause-rise : goal.returns-clause-rise
returns-clause-rise c = numbers_rise

pub returns-clause-fresh : goal.returns-clause-fresh
returns-clause-fresh c = numbers_are_new
