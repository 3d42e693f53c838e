-- The answers to the goals of `definitions::lookups_are_after`.
use Rattle.law_implementing.proofs.MembersCalled.{lookups_are_after, names_are_freed, turns_are_told}
use Rattle.law_implementing.proofs.definitions.lookups_are_after.Goals as goal

pub returns-clause-after : goal.returns-clause-after
returns-clause-after c = lookups_are_after

pub returns-clause-free : goal.returns-clause-free
returns-clause-free c = names_are_freed

pub returns-clause-turns : goal.returns-clause-turns
returns-clause-turns c = turns_are_told
