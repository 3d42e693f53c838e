-- The answer to the goal of `paths::packages_stay_apart`.
use Rattle.law_moves.proofs.MovedFiles.{packages_apart}
use Rattle.law_moves.proofs.paths.packages_stay_apart.Goals as goal

pub returns : goal.returns
returns c = packages_apart
