-- The answers to the goals of `laws::member_names_exclude_other_ways`.
use Rattle.refs_binding.specs.Uses.{IsCheckedPackage}
use Rattle.refs_lookup.proofs.NamedMembers.{name_not_scope, name_not_package}
use Rattle.refs_lookup.proofs.laws.member_names_exclude_other_ways.Goals as goal

pub returns : goal.returns
returns c = record {
  scopes = (λ w known p is u d e lt a b. name_not_scope w known p.path p is.is_checked u d e lt a b);
  packages = (λ w known p is u d e lt a b. name_not_package w known p.path p is.is_checked (IsCheckedPackage w known) u d e lt a b);
}
