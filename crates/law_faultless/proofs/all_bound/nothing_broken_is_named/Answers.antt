-- The answers to the goals of `all_bound::nothing_broken_is_named`.
use Rattle.law_faultless.proofs.Fine.{world_unbroken}
use Rattle.law_faultless.proofs.all_bound.nothing_broken_is_named.Goals as goal

pub returns : goal.returns
returns c = λ w sound known right worlds p is file s v judged. world_unbroken w sound known right worlds p is file s v judged
