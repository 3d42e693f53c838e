-- The answers to the goals of `plain_agreement::plain_renames_agree`.
use Rattle.law_agreement.proofs.Laws.{plain_renames_agree, scope_renames_agree}
use Rattle.law_agreement.proofs.plain_agreement.plain_renames_agree.Goals as goal

pub returns-clause-plain : goal.returns-clause-plain
returns-clause-plain c = plain_renames_agree

pub returns-clause-scopes : goal.returns-clause-scopes
returns-clause-scopes c = scope_renames_agree
