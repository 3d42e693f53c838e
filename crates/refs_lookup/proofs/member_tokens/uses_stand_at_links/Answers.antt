-- The answers to the goals of `laws::uses_stand_at_links`.
use Rattle.refs_lookup.proofs.LinkPlaces.{stands_at_link}
use Rattle.refs_lookup.proofs.member_tokens.uses_stand_at_links.Goals as goal

pub returns : goal.returns
returns c = λ w is_init f is x a. stands_at_link w is_init f is x a
