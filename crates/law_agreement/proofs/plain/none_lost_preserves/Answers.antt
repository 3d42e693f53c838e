-- The answer to the goal of `plain::none_lost_preserves`.
use Rattle.law_agreement.proofs.PlainRenames.{preserves}
use Rattle.law_agreement.proofs.plain.none_lost_preserves.Goals as goal

pub returns : goal.returns
returns c = preserves
