-- The answers to the goals of `quoted::quoted_path_is_piece`.
use Rattle.law_rename.proofs.Cutting.{quoted_goes_on, quoted_in_cut}
use Rattle.law_rename.proofs.quoted.quoted_path_is_piece.Goals as goal

pub returns-clause-goes_on : goal.returns-clause-goes_on
returns-clause-goes_on c = quoted_goes_on

pub returns-clause-in_cut : goal.returns-clause-in_cut
returns-clause-in_cut c = quoted_in_cut
