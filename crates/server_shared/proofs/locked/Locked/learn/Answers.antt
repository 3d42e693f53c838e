-- Where the log still ends with what was seen, the files are the current ones.
use Rattle.std.proofs.Common.{subst}
use Rattle.base_files.specs.Workspace.{Workspace}
use Rattle.workspace_check.specs.Found.{KnowsVerdicts}
use Rattle.server_shared.proofs.SeenLaws.{state_at_end}
use Rattle.server_shared.proofs.locked.Locked.learn.Goals as goal

pub learn_current-requires : goal.learn_current-requires
learn_current-requires g c =
    let end = c.is_end.ensures.0 c.if-is_end.true in
    subst (λ (w : Workspace). KnowsVerdicts w c.args.known)
    (state_at_end c.args.seen.now c.args.self.now.files_log.seen c.args.self.now.book.current.files c.args.files.now end.1 (c.args.self.now.seen end.0)
    c.requires.seen)
    c.requires.known
