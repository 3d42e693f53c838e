-- A clone of the change's files has the same files, and the findings are right of them.
use Rattle.std.proofs.Common.{sym, ap, subst, ◌∙◌}
use Rattle.base_files.specs.Workspace.{Workspace}
use Rattle.workspace_check.specs.Found.{KnowsVerdicts}
use Rattle.history_book.specs.CurrentUnits.{AreKnownIn}
use Rattle.workspace_snapshot.specs.declared.change.Change.{Change}
use Rattle.server_commands.proofs.acting.commit_carrying.Goals as goal

pub commit_learning-requires-clause-files : goal.commit_learning-requires-clause-files
commit_learning-requires-clause-files g c = c.in-Ok.ensures.cases ∙ ap (λ (x : Change). x.files) c.get.ensures

pub commit_learning-requires-clause-known : goal.commit_learning-requires-clause-known
commit_learning-requires-clause-known g c = subst (λ (w : Workspace). KnowsVerdicts w c.args.planned.known)
    (sym (c.in-Ok.ensures.cases ∙ ap (λ (x : Change). x.files) c.get.ensures)) c.requires.known

pub commit_learning-requires-clause-units : goal.commit_learning-requires-clause-units
commit_learning-requires-clause-units g c = subst (λ (w : Workspace). AreKnownIn w c.args.units)
    (sym (c.in-Ok.ensures.cases ∙ ap (λ (x : Change). x.files) c.get.ensures)) c.requires.units
