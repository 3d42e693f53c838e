-- The answers to the goals of `next::read_put`.
use Rattle.server_read.proofs.Puts.{put_skipped, put_read}
use Rattle.server_read.proofs.next.read_put.Goals as goal
use Rattle.server_read.proofs.next.read_put.Goals.{then-is_whole, else-is_whole}

pub returns-after-is_whole-clause-put : goal.returns-after-is_whole-clause-put
returns-after-is_whole-clause-put g c =
    let skipped = put_skipped c.args.limits.now c.args.line.basis c.args.line.path c.args.line.size (g.S.ByteSource.remaining c.args.source.now)
    (g.S.ByteSource.remaining c.skip.new.source)
    c.in_ok-is_whole-in-Err.is_whole c.in_ok-is_whole-in-Err.ensures.skips in
    elim c.if-is_whole.branch [
      | then-is_whole w ↦ rw w.result-is (rw w.if-is_whole.true at skipped)
      | else-is_whole w ↦ rw w.result-is (rw w.if-is_whole.false at skipped)
    ]

pub returns-in_ok-body-in-Ok-clause-put : goal.returns-in_ok-body-in-Ok-clause-put
returns-in_ok-body-in-Ok-clause-put g c =
    rw c.put_message.ensures
    (put_read c.args.limits.now c.args.line.basis c.args.line.path c.args.line.size (g.S.ByteSource.remaining c.args.source.now)
    (g.S.ByteSource.remaining c.read_body.new.source)
    c.in-Ok.is_kept c.in_ok-body-in-Ok.body (rw c.as_str.ensures at c.in-Ok.ensures) c.in_ok-body-in-Ok.ensures.body)
