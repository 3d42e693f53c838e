-- The answers to the goals of `quoted::folder_of_path_is_path`.
use Rattle.law_rename.proofs.Folders.{folder_is_path}
use Rattle.law_rename.proofs.quoted.folder_of_path_is_path.Goals as goal

pub returns : goal.returns
returns c = folder_is_path
