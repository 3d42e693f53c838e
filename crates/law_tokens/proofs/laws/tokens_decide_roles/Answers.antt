-- The answers to the goals of `laws::tokens_decide_roles`.
use Rattle.law_tokens.proofs.Roles.{role_told}
use Rattle.law_tokens.proofs.laws.tokens_decide_roles.Goals as goal

pub returns : goal.returns
returns c = λ files w u lt i f is. role_told files w u lt i f is
