-- The answers to the goals of `conflicts::move_conflicts_are_of_imports`.
use Rattle.law_moves.proofs.MovedScopesLaws.{conflicts, only, stay}
use Rattle.law_moves.proofs.conflicts.move_conflicts_are_of_imports.Goals as goal

pub returns-clause-conflicts : goal.returns-clause-conflicts
returns-clause-conflicts c = conflicts

pub returns-clause-only : goal.returns-clause-only
returns-clause-only c = only

pub returns-clause-stay : goal.returns-clause-stay
returns-clause-stay c = stay
