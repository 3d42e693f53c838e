-- The answer to the goal of `renumbered_sites::renumbered_file_has_moved_identifiers`.
use Rattle.law_rename.proofs.MovedFiles.{file_moved}
use Rattle.law_rename.proofs.renumbered_sites.renumbered_file_has_moved_identifiers.Goals as goal

pub returns : goal.returns
returns c = file_moved
