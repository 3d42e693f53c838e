-- The answers to the goals of `laws::used_members_exclude_other_ways`.
use Rattle.refs_lookup.proofs.UsedMembers.{member_not_scope, member_not_name}
use Rattle.refs_lookup.proofs.laws.used_members_exclude_other_ways.Goals as goal

pub returns : goal.returns
returns c = record {
  scopes = (λ w known p is u d e stands a b. member_not_scope w known p.path p is.is_checked u d e stands a b);
  names = (λ w known p is u d e stands a b. member_not_name w known p.path p is.is_checked u d e stands a b);
}
