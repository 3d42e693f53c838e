-- The answers to the goals of `laws::one_identifier_begins`.
use Rattle.refs_lookup.proofs.OnePlace.{one_begins}
use Rattle.refs_lookup.proofs.laws.one_identifier_begins.Goals as goal

pub returns : goal.returns
returns c = λ w known p is path offset u v a b. one_begins w known p.path p is.is_checked path offset u v a b
