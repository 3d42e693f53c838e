-- The answers to the goals of `laws::identifiers_stand_apart`.
use Rattle.law_tokens.proofs.Ordered.{one_stands}
use Rattle.law_tokens.proofs.laws.identifiers_stand_apart.Goals as goal

pub returns : goal.returns
returns c = λ l size ordered at u v lu lv h k. one_stands l size ordered at u v lu lv h k
