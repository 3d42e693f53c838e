-- The answers to the goals of `laws::uses_stay`.
use Rattle.base_files.specs.Path.{folder}
use Rattle.workspace_check.proofs.Local.{same_back}
use Rattle.refs_lookup.proofs.Bindings.{use_stays, held_stays}
use Rattle.refs_lookup.proofs.closure_laws.uses_stay.Goals as goal

pub returns-clause-begins : goal.returns-clause-begins
returns-clause-begins c = λ w x before after right also place same d. (
  use_stays w x before after right also place same d,
  use_stays x w after before also right place (same_back w x (folder place.path) same) d,
)

pub returns-clause-holds : goal.returns-clause-holds
returns-clause-holds c = λ w x before after right also path same offset d. (
  held_stays w x before after right also path same offset d,
  held_stays x w after before also right path (same_back w x (folder path) same) offset d,
)
