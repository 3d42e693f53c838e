-- The answers to the goals of `laws::declarations_stand`.
use Rattle.workspace_check.proofs.Local.{same_back}
use Rattle.refs_lookup.proofs.Standing.{bound_within, within_stays}
use Rattle.refs_lookup.proofs.closure_laws.declarations_stand.Goals as goal

pub returns-clause-within : goal.returns-clause-within
returns-clause-within c = λ w known right p is u d h. bound_within w known right p is u d h

pub returns-clause-stay : goal.returns-clause-stay
returns-clause-stay c = λ w x before after right also path same d place. (
  within_stays w x before after right also path same d place,
  within_stays x w after before also right path (same_back w x path same) d place,
)
