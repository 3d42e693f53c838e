-- The answer to the goal of `plain::local_renames_have_verdicts`.
use Rattle.law_agreement.proofs.PlainRenames.{have_local}
use Rattle.law_agreement.proofs.plain.local_renames_have_verdicts.Goals as goal

pub returns : goal.returns
returns c = have_local
