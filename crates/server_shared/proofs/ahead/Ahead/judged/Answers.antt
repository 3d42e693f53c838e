-- What is known is of the snapshot's files.
use Rattle.std.proofs.Common.{sym, subst}
use Rattle.base_files.specs.Workspace.{Workspace}
use Rattle.workspace_check.specs.Found.{KnowsVerdicts}
use Rattle.server_shared.proofs.ahead.Ahead.judged.Goals as goal

pub judged_ahead-requires : goal.judged_ahead-requires
judged_ahead-requires g c = subst (λ (w : Workspace). KnowsVerdicts w c.known.result.now) (sym c.files.ensures) c.known.ensures
