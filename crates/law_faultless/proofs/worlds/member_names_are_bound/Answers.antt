-- The answers to the goals of `worlds::member_names_are_bound`.
use Rattle.law_faultless.proofs.Bound.{member_name_bound}
use Rattle.law_faultless.proofs.worlds.member_names_are_bound.Goals as goal

pub returns : goal.returns
returns c = λ w sound known right p is u stands name. member_name_bound w sound known right p is u stands name
