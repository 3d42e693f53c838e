-- What a view knows is right of its files.
use Rattle.std.proofs.Common.{sym, subst}
use Rattle.base_files.specs.Workspace.{Workspace}
use Rattle.workspace_check.specs.Found.{KnowsVerdicts}
use Rattle.server_commands.proofs.queries.found.Goals as goal

pub verdicts-requires : goal.verdicts-requires
verdicts-requires c = subst (λ (w : Workspace). KnowsVerdicts w c.known.result.now) (sym c.files.ensures) c.known.ensures
