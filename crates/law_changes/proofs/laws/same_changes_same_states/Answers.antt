-- By the lemma of that name.
use Rattle.law_changes.proofs.Made.{same_changes_same_states}
use Rattle.law_changes.proofs.laws.same_changes_same_states.Goals as goal

pub returns : goal.returns
returns c = same_changes_same_states
