-- The answers to the goals of `laws::units_are_counted`.
use Rattle.lsp_position.proofs.Counting.{counted}
use Rattle.lsp_position.proofs.laws.units_are_counted.Goals as goal

pub returns : goal.returns
returns c = counted
