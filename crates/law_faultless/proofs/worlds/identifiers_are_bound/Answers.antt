-- The answers to the goals of `worlds::identifiers_are_bound`.
use Rattle.law_faultless.proofs.Bound.{identifier_bound}
use Rattle.law_faultless.proofs.worlds.identifiers_are_bound.Goals as goal

pub returns : goal.returns
returns c = λ w sound known right p is u stands e. identifier_bound w sound known right p is u stands e
