-- The book gives only replies that the event may get.
use Rattle.history_machine.proofs.Replies.{may_reply}
use Rattle.server_commands.proofs.desk.SoloDesk.step.Goals as goal

pub returns-clause-kind : goal.returns-clause-kind
returns-clause-kind g c =
    may_reply c.self.inside.book (g.Q.Question.event c.args.question) (g.Q.Question.reply c.step.result) c.step.new.self c.step.ensures
