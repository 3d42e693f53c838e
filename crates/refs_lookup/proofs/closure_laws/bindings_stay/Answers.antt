-- The answers to the goals of `laws::bindings_stay`.
use Rattle.workspace_check.proofs.Local.{same_back}
use Rattle.refs_lookup.proofs.Packages.{package_stays}
use Rattle.refs_lookup.proofs.Bindings.{bound_stays}
use Rattle.refs_lookup.proofs.closure_laws.bindings_stay.Goals as goal

pub returns : goal.returns
returns c = λ w x before after right also p same is u d. (
  bound_stays w x before after right also p same is u d,
  bound_stays x w after before also right p (same_back w x p.path same) (package_stays w x before after right also p same is) u d,
)
