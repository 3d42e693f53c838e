-- The answers to the goals of `quoted::quoted_path_stands`.
use Rattle.law_rename.proofs.Cutting.{quoted_stands}
use Rattle.law_rename.proofs.quoted.quoted_path_stands.Goals as goal

pub returns : goal.returns
returns c = quoted_stands
