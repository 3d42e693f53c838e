-- What is known beside, of the files of the change.
use Rattle.std.proofs.Common.{IfOk, subst}
use Rattle.workspace_check.specs.Found.{KnowsVerdicts}
use Rattle.workspace_snapshot.specs.declared.change.Change.{Change}
use Rattle.refactor_affected.proofs.whole.whole_known.Goals as goal

pub returns : goal.returns
returns c = subst (λ (x : Change). IfOk c.known_beside.result (KnowsVerdicts x.files)) c.get.ensures c.known_beside.ensures
