-- The answers to the goals of `laws::identifiers_stand_in_order`.
use Rattle.law_tokens.proofs.Ordered.{package_ordered}
use Rattle.law_tokens.proofs.laws.identifiers_stand_in_order.Goals as goal

pub returns : goal.returns
returns c = λ files numbered u v less lt i j. package_ordered files numbered u v less lt i j
