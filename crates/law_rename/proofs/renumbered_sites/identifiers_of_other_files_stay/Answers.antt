-- The answer to the goal of `renumbered_sites::identifiers_of_other_files_stay`.
use Rattle.law_rename.proofs.Staying.{file_stays}
use Rattle.law_rename.proofs.renumbered_sites.identifiers_of_other_files_stay.Goals as goal

pub returns : goal.returns
returns c = file_stays
