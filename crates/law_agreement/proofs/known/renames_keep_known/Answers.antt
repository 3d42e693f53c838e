-- The answers to the goals of `known::renames_keep_known`.
use Rattle.law_agreement.proofs.KnownStay.{keep_findings, keep_unseen}
use Rattle.law_agreement.proofs.known.renames_keep_known.Goals as goal

pub returns-clause-findings : goal.returns-clause-findings
returns-clause-findings c = keep_findings

pub returns-clause-unseen : goal.returns-clause-unseen
returns-clause-unseen c = keep_unseen
