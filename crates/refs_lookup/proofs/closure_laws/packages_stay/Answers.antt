-- The answers to the goals of `laws::packages_stay`.
use Rattle.workspace_check.proofs.Local.{same_back}
use Rattle.refs_lookup.proofs.Packages.{package_stays, known_stays}
use Rattle.refs_lookup.proofs.closure_laws.packages_stay.Goals as goal

pub returns-clause-checked : goal.returns-clause-checked
returns-clause-checked c = λ w x before after right also p same. (
  package_stays w x before after right also p same,
  package_stays x w after before also right p (same_back w x p.path same),
)

pub returns-clause-known : goal.returns-clause-known
returns-clause-known c = λ w x before after right also path has same. known_stays w x before after right also path has same
