-- The answers to the goals of `laws::nonlexical_roles_are_unbound`.
use Rattle.law_tokens.proofs.Lexical.{never_bound}
use Rattle.law_tokens.proofs.laws.nonlexical_roles_are_unbound.Goals as goal

pub returns : goal.returns
returns c = λ l names u d p e b. never_bound l names u d p e b
