-- The answers to the goals of `laws::one_identifier_at_a_byte`.
use Rattle.refs_lookup.proofs.OnePlace.{one_asked}
use Rattle.refs_lookup.proofs.laws.one_identifier_at_a_byte.Goals as goal

pub returns : goal.returns
returns c = λ w known path offset p q u v a b h k. one_asked w known path offset p q u v a b h k
