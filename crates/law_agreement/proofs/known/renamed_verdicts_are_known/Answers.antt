-- The answers to the goals of `known::renamed_verdicts_are_known`.
use Rattle.law_agreement.proofs.KnownStay.{exports_known, fields_known, methods_known}
use Rattle.law_agreement.proofs.known.renamed_verdicts_are_known.Goals as goal

pub returns-clause-exports : goal.returns-clause-exports
returns-clause-exports c = exports_known

pub returns-clause-fields : goal.returns-clause-fields
returns-clause-fields c = fields_known

pub returns-clause-methods : goal.returns-clause-methods
returns-clause-methods c = methods_known
