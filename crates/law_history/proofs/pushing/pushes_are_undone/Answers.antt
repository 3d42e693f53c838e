-- By the lemmas of these names.
use Rattle.law_history.proofs.Pushed.{pushes_are_undone, pushes_stand}
use Rattle.law_history.proofs.pushing.pushes_are_undone.Goals as goal

pub returns-clause-stands : goal.returns-clause-stands
returns-clause-stands c = pushes_stand

pub returns-clause-undone : goal.returns-clause-undone
returns-clause-undone c = pushes_are_undone
