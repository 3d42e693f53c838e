-- The answers to the goals of `laws::one_identifier_holds`.
use Rattle.refs_lookup.proofs.OnePlace.{one_holds}
use Rattle.refs_lookup.proofs.laws.one_identifier_holds.Goals as goal

pub returns : goal.returns
returns c = λ w known p is path offset u v a b. one_holds w known p.path p is.is_checked path offset u v a b
