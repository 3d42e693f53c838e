-- The answers to the goals of `laws::names_behind_packages_are_bound`.
use Rattle.refs_lookup.proofs.ExportedNames.{bound_behind}
use Rattle.refs_lookup.proofs.unique.names_behind_packages_are_bound.Goals as goal

pub returns : goal.returns
returns c = λ w sound known right p is u stands path b. bound_behind w sound known right p is u stands path b
