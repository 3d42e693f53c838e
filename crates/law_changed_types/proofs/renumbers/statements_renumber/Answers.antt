-- The answers to the goals of `renumbers::statements_renumber`.
use Rattle.law_changed_types.proofs.Files.{statements_renumber}
use Rattle.law_changed_types.proofs.renumbers.statements_renumber.Goals as goal

pub returns : goal.returns
returns c = statements_renumber
