-- The answers to the goals of `quoted::quoted_path_is_cut`.
use Rattle.law_rename.proofs.Cutting.{quoted_cut_only, quoted_tokens}
use Rattle.law_rename.proofs.quoted.quoted_path_is_cut.Goals as goal

pub returns-clause-pieces : goal.returns-clause-pieces
returns-clause-pieces c = quoted_cut_only

pub returns-clause-tokens : goal.returns-clause-tokens
returns-clause-tokens c = quoted_tokens
