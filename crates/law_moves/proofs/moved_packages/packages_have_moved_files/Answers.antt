-- The answer to the goal of `moved_packages::packages_have_moved_files`.
use Rattle.law_moves.proofs.ClauseNames.{have_moved_files}
use Rattle.law_moves.proofs.moved_packages.packages_have_moved_files.Goals as goal

pub returns : goal.returns
returns c = have_moved_files
