-- The answers to the goals of `sending::send`.
use Rattle.lsp_session.proofs.Written.{appends_kept}
use Rattle.lsp_session.proofs.sending.send.Goals as goal

pub returns : goal.returns
returns g c =
    let held = g.W.Write.contents c.args.out.now in
    let mid = g.W.Write.contents c.write_all.new.self in
    let holds = g.W.Write.contents c.flush.new.self in (
      c.in_ok-bytes.bytes.items,
      c.in_ok-bytes.ensures,
      appends_kept held mid holds c.in_ok-bytes.bytes.items (rw c.as_slice.ensures.value at c.in_ok-write_all.ensures.bytes) c.flush.ensures.bytes,
    )
