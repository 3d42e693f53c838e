-- The answers to the goals of `laws::declared_members_are_bound`.
use Rattle.refs_lookup.proofs.DeclaredMembers.{field_bound, method_bound}
use Rattle.refs_lookup.proofs.unique.declared_members_are_bound.Goals as goal

pub returns : goal.returns
returns c = record {
  fields = (λ w sound known right p is rank f has u stands unbound. field_bound w sound known right p is rank f has u stands unbound);
  methods = (λ w sound known right p is definition rank name f own u stands unbound.
      method_bound w sound known right p is definition rank name f own u stands unbound);
}
