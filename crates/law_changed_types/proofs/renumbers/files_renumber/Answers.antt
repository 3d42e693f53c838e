-- The answers to the goals of `renumbers::files_renumber`.
use Rattle.law_changed_types.proofs.Files.{files_renumber}
use Rattle.law_changed_types.proofs.renumbers.files_renumber.Goals as goal

pub returns : goal.returns
returns c = files_renumber
