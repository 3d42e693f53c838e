-- By the lemmas of these names.
use Rattle.law_changes.proofs.Going.{changes_go_on, changes_go_on_over_borders, no_changes_at_first}
use Rattle.law_changes.proofs.laws.changes_go_on.Goals as goal

pub returns-clause-none : goal.returns-clause-none
returns-clause-none c = no_changes_at_first

pub returns-clause-event : goal.returns-clause-event
returns-clause-event c = changes_go_on

pub returns-clause-border : goal.returns-clause-border
returns-clause-border c = changes_go_on_over_borders
