-- The answers to the goals of `worlds::no_identifier_is_unbound`.
use Rattle.law_faultless.proofs.AllBound.{none_unbound}
use Rattle.law_faultless.proofs.worlds.no_identifier_is_unbound.Goals as goal

pub returns : goal.returns
returns c = λ w sound known right p is u stands e unbound. none_unbound w sound known right p is u stands unbound e
