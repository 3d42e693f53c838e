-- The answers to the goals of `worlds::files_keep_the_rules`.
use Rattle.law_faultless.proofs.Bound.{file_typed}
use Rattle.law_faultless.proofs.worlds.files_keep_the_rules.Goals as goal

pub returns : goal.returns
returns c = λ w sound known right p is file s at v judged. file_typed w sound known right p is file s at v judged
