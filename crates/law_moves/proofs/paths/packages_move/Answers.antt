-- The answers to the goals of `paths::packages_move`.
use Rattle.law_moves.proofs.MovedFiles.{paths_move, package_files_move}
use Rattle.law_moves.proofs.paths.packages_move.Goals as goal

pub returns-clause-paths : goal.returns-clause-paths
returns-clause-paths c = paths_move

pub returns-clause-files : goal.returns-clause-files
returns-clause-files c = package_files_move
