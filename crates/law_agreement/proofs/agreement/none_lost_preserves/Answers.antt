-- The answers to the goals of `agreement::none_lost_preserves`.
use Rattle.law_agreement.proofs.Moving.{checked_none_lost}
use Rattle.law_agreement.proofs.agreement.none_lost_preserves.Goals as goal

pub returns : goal.returns
returns c = checked_none_lost
