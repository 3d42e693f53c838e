-- The answers to the goals of `laws::named_imports_begin_apart`.
use Rattle.law_tokens.proofs.HeldBytes.{one_named_begins}
use Rattle.law_tokens.proofs.laws.named_imports_begin_apart.Goals as goal

pub returns : goal.returns
returns c = λ names files w own path offset u v lu lv h k. one_named_begins names files w own path offset u v lu lv h k
