-- What is shown under the lock ends with the files that are current behind the step.
use Rattle.server_shared.proofs.SeenLaws.{ends_behind}
use Rattle.server_shared.proofs.locked.Locked.call_and_show.Goals as goal

pub returns-clause-seen : goal.returns-clause-seen
returns-clause-seen g c =
    ends_behind _ _ (g.Q.Question.event c.args.question) (g.Q.Question.reply c.call-answer.result.0) c.call-answer.result.1 _ c.show_files-shown.result
    c.call-answer.ensures.made c.show_files-shown.ensures.shown
