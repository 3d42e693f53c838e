-- By the list of the files.
use Rattle.base_edits.proofs.FilesAfter.{has_each_file}
use Rattle.base_edits.proofs.laws.each_path_gets_one_file.Goals as goal

pub returns : goal.returns
returns c = has_each_file
