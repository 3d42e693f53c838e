-- The answers to the goals of `laws::identifiers_begin_apart`.
use Rattle.law_tokens.proofs.HeldBytes.{one_begins}
use Rattle.law_tokens.proofs.laws.identifiers_begin_apart.Goals as goal

pub returns : goal.returns
returns c = λ files w own path offset u v lu lv h k. one_begins files w own path offset u v lu lv h k
