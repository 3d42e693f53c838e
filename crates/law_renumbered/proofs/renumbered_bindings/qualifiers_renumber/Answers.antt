-- The answer to the goal of `renumbered_bindings::qualifiers_renumber`.
use Rattle.law_renumbered.proofs.Qualifiers.{qualifiers_renumber}
use Rattle.law_renumbered.proofs.renumbered_bindings.qualifiers_renumber.Goals as goal

pub returns : goal.returns
returns c = qualifiers_renumber
