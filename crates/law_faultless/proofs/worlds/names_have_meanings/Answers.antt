-- The answers to the goals of `worlds::names_have_meanings`.
use Rattle.law_faultless.proofs.MeaningfulNames.{names_mean}
use Rattle.law_faultless.proofs.worlds.names_have_meanings.Goals as goal

pub returns : goal.returns
returns c = λ w sound known right p is file s at v judged. names_mean w sound known right p is file s at v judged
