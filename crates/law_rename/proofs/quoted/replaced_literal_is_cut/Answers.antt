-- The answers to the goals of `quoted::replaced_literal_is_cut`.
use Rattle.law_rename.proofs.WholeCut.{replaced_cut}
use Rattle.law_rename.proofs.quoted.replaced_literal_is_cut.Goals as goal

pub returns : goal.returns
returns c = replaced_cut
