-- The answer to the goal of `program_trees::named_files_exist`.
use Rattle.law_gained_names.proofs.Named.{named_files_exist}
use Rattle.law_gained_names.proofs.program_trees.named_files_exist.Goals as goal

pub returns : goal.returns
returns c = named_files_exist
