-- What was seen ends with the state's files.
use Rattle.std.proofs.Common.{List, IfSome, subst, sym}
use Rattle.base_files.specs.Workspace.{Workspace}
use Rattle.workspace_check.specs.Found.{KnowsVerdicts}
use Rattle.server_versions.specs.Growing.{IsLastVersion}
use Rattle.server_shared.proofs.locked.Locked.learn_ahead.Goals as goal

pub learn-requires-clause-known : goal.learn-requires-clause-known
learn-requires-clause-known g c = subst (λ (w : Workspace). KnowsVerdicts w c.args.known) (sym c.files.ensures) c.requires

pub learn-requires-clause-seen : goal.learn-requires-clause-seen
learn-requires-clause-seen g c =
    subst (λ (w : Workspace). IfSome c.args.state.now.seen (λ (v : List Workspace). IsLastVersion v w)) (sym c.files.ensures) c.args.state.now.ends
