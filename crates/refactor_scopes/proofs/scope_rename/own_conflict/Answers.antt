-- The answers to the goals of `scope_rename::own_conflict`.
use Rattle.refactor_scopes.proofs.Renames.{first_own}
use Rattle.refactor_scopes.proofs.scope_rename.own_conflict.Goals as goal

pub returns : goal.returns
returns c = first_own c.args.rename.now c.requires c.own_outcome-outcome.result c.conflict_at.result c.conflict_at.ensures c.own_outcome-outcome.ensures
