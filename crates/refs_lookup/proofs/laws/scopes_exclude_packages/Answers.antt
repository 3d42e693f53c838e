-- The answers to the goals of `laws::scopes_exclude_packages`.
use Rattle.refs_binding.specs.Uses.{IsCheckedPackage}
use Rattle.refs_binding.proofs.Excluding.{not_both}
use Rattle.refs_lookup.proofs.laws.scopes_exclude_packages.Goals as goal

pub returns : goal.returns
returns c = λ w known p u d e a b. not_both (IsCheckedPackage w known) p u d e a b
