-- The answers to the goals of `laws::one_use_stands_at_a_token`.
use Rattle.refs_lookup.proofs.LinkPlaces.{one_at_token}
use Rattle.refs_lookup.proofs.member_tokens.one_use_stands_at_a_token.Goals as goal

pub returns : goal.returns
returns c = λ w is_init f is x y a b at. one_at_token w is_init f is x y a b at
