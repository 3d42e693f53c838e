-- The answers to the goals of `laws::sites_cover_tokens`.
use Rattle.law_tokens.proofs.Covering.{file_covered}
use Rattle.law_tokens.proofs.laws.sites_cover_tokens.Goals as goal

pub returns : goal.returns
returns c = λ s f. file_covered s f
