-- The answers to the goals of `laws::tokens_decide_named_roles`.
use Rattle.law_tokens.proofs.Roles.{named_role_told}
use Rattle.law_tokens.proofs.laws.tokens_decide_named_roles.Goals as goal

pub returns : goal.returns
returns c = λ names files w u lt i f is. named_role_told names files w u lt i f is
