-- The answers to the goals of `laws::named_imports_stand_in_order`.
use Rattle.law_tokens.proofs.Ordered.{named_ordered}
use Rattle.law_tokens.proofs.laws.named_imports_stand_in_order.Goals as goal

pub returns : goal.returns
returns c = λ names p h u v less lt i j. named_ordered names p h u v less lt i j
