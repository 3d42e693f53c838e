-- The answer to the goal of `bare_imports::named_import_is_in_the_file`.
use Rattle.law_rename.proofs.WholeFile.{source_kept}
use Rattle.law_rename.proofs.bare_imports.named_import_is_in_the_file.Goals as goal

pub returns : goal.returns
returns c = source_kept
