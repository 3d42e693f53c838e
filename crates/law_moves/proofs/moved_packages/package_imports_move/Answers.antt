-- The answer to the goal of `moved_packages::package_imports_move`.
use Rattle.law_moves.proofs.NewFiles.{package_imports_move}
use Rattle.law_moves.proofs.moved_packages.package_imports_move.Goals as goal

pub returns : goal.returns
returns c = package_imports_move
