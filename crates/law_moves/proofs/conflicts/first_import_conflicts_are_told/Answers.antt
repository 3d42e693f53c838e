-- The answers to the goals of `conflicts::first_import_conflicts_are_told`.
use Rattle.law_moves.proofs.MovedScopesLaws.{first, lost, none}
use Rattle.law_moves.proofs.conflicts.first_import_conflicts_are_told.Goals as goal

pub returns-clause-first : goal.returns-clause-first
returns-clause-first c = first

pub returns-clause-none : goal.returns-clause-none
returns-clause-none c = none

pub returns-clause-lost : goal.returns-clause-lost
returns-clause-lost c = lost
