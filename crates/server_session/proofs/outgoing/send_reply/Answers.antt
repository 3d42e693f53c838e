-- The answers to the goals of `outgoing::send_reply`.
use Rattle.server_session.specs.Replies.{reply_text}
use Rattle.server_session.proofs.Sent.{written_then_sent}
use Rattle.server_session.proofs.outgoing.send_reply.Goals as goal

pub returns-then-is_last-clause-written : goal.returns-then-is_last-clause-written
returns-then-is_last-clause-written g c =
    written_then_sent (g.T.Sink.contents c.args.sink.now) (g.T.Sink.contents c.print_reply.new.sink) (g.T.Sink.contents c.flush.new.self)
    (reply_text c.args.reply.now) c.flush.result c.in_ok-print_reply.ensures.written c.flush.ensures.bytes
