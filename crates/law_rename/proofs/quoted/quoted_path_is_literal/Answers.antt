-- The answers to the goals of `quoted::quoted_path_is_literal`.
use Rattle.law_rename.proofs.Quoting.{quoted_literal}
use Rattle.law_rename.proofs.quoted.quoted_path_is_literal.Goals as goal

pub returns : goal.returns
returns c = quoted_literal
