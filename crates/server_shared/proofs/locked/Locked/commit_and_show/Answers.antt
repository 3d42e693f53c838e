-- What is shown under the lock ends with the files that are current behind the step.
use Rattle.history_machine.specs.Step.{done}
use Rattle.history_machine.specs.declared.event.Event.TheVariants.{Commit}
use Rattle.server_shared.proofs.SeenLaws.{ends_behind}
use Rattle.server_shared.proofs.locked.Locked.commit_and_show.Goals as goal

pub returns-clause-seen : goal.returns-clause-seen
returns-clause-seen g c =
    ends_behind _ _ (Commit c.args.basis c.args.change) (done c.commit-answer.result.0) c.commit-answer.result.1 _ c.show_files-shown.result
    c.commit-answer.ensures.made c.show_files-shown.ensures.shown
