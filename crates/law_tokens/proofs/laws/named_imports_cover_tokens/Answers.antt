-- The answers to the goals of `laws::named_imports_cover_tokens`.
use Rattle.law_tokens.proofs.Places.{named_has_one}
use Rattle.law_tokens.proofs.laws.named_imports_cover_tokens.Goals as goal

pub returns : goal.returns
returns c = λ names p at. named_has_one names p at
