-- The answers to the goals of `quoted::replaced_literal_is_piece`.
use Rattle.law_rename.proofs.Replacing.{replaced_in_cut}
use Rattle.law_rename.proofs.quoted.replaced_literal_is_piece.Goals as goal

pub returns : goal.returns
returns c = replaced_in_cut
