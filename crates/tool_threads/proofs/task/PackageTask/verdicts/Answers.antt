-- What is shared is what is known.
use Rattle.std.proofs.Common.{subst, sym}
use Rattle.workspace_check.specs.Found.{KnowsVerdicts}
use Rattle.workspace_check.specs.declared.known.Known.{Known}
use Rattle.tool_threads.proofs.task.PackageTask.verdicts.Goals as goal

pub verdicts_at-requires : goal.verdicts_at-requires
verdicts_at-requires c = subst (λ (k : Known). KnowsVerdicts c.args.self.now.graph k) (sym c.get.ensures) c.requires
