-- The answers to the goals of `worlds::packages_have_worlds`.
use Rattle.law_faultless.proofs.PackageWorlds.{have_all_worlds}
use Rattle.law_faultless.proofs.worlds.packages_have_worlds.Goals as goal

pub returns : goal.returns
returns c = λ w sound known right. have_all_worlds w sound known right
