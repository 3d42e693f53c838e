-- The answers to the goals of `laws::lexical_names_are_bound`.
use Rattle.refs_lookup.proofs.LexicalNames.{bound_somehow}
use Rattle.refs_lookup.proofs.unique.lexical_names_are_bound.Goals as goal

pub returns : goal.returns
returns c = λ w sound known right p is u stands h unbound. bound_somehow w sound known right p is u stands.0 unbound h
