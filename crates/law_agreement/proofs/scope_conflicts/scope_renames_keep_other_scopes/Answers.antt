-- The answer to the goal of `scope_conflicts::scope_renames_keep_other_scopes`.
use Rattle.law_agreement.proofs.Whole.{other_scopes}
use Rattle.law_agreement.proofs.scope_conflicts.scope_renames_keep_other_scopes.Goals as goal

pub returns : goal.returns
returns c = other_scopes
