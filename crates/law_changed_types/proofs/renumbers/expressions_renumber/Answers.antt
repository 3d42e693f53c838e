-- The answers to the goals of `renumbers::expressions_renumber`.
use Rattle.law_changed_types.proofs.Found.{expressions_renumber}
use Rattle.law_changed_types.proofs.renumbers.expressions_renumber.Goals as goal

pub returns : goal.returns
returns c = expressions_renumber
