-- The answers to the goals of `laws::types_are_named_once`.
use Rattle.types_declared.proofs.Naming.{one_named}
use Rattle.types_check.proofs.laws.types_are_named_once.Goals as goal

pub returns : goal.returns
returns c = one_named
