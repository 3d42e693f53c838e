-- The answers to the goals of `laws::used_members_exclude_packages`.
use Rattle.refs_binding.specs.Uses.{IsCheckedPackage}
use Rattle.refs_lookup.proofs.BoundUsedMembers.{member_not_package}
use Rattle.refs_lookup.proofs.unique.used_members_exclude_packages.Goals as goal

pub returns : goal.returns
returns c = λ w known p is u d e stands a b. member_not_package w known p.path p is.is_checked (IsCheckedPackage w known) u d e stands a b
