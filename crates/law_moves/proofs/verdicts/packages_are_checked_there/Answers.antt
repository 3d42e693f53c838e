-- The answers to the goals of `verdicts::packages_are_checked_there`.
use Rattle.law_moves.proofs.MovedVerdictsLaws.{packages}
use Rattle.law_moves.proofs.verdicts.packages_are_checked_there.Goals as goal

pub returns : goal.returns
returns c = packages
