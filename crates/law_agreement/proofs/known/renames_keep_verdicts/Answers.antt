-- The answers to the goals of `known::renames_keep_verdicts`.
use Rattle.law_agreement.proofs.KnownStay.{keep_hidden, keep_others}
use Rattle.law_agreement.proofs.known.renames_keep_verdicts.Goals as goal

pub returns-clause-hidden : goal.returns-clause-hidden
returns-clause-hidden c = keep_hidden

pub returns-clause-others : goal.returns-clause-others
returns-clause-others c = keep_others
