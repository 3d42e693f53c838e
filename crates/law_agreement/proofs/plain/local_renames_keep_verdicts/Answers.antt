-- The answers to the goals of `plain::local_renames_keep_verdicts`.
use Rattle.law_agreement.proofs.PlainRenames.{keep_one, keep_all}
use Rattle.law_agreement.proofs.plain.local_renames_keep_verdicts.Goals as goal

pub returns-clause-one : goal.returns-clause-one
returns-clause-one c = keep_one

pub returns-clause-all : goal.returns-clause-all
returns-clause-all c = keep_all
