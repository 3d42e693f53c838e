-- The answers to the goals of `frames::take_frame`.
use Rattle.std.proofs.Common.{false, refl}
use Rattle.lsp_session.proofs.Paid.{end_paid}
use Rattle.lsp_session.proofs.frames.take_frame.Goals as goal

pub returns-in-End : goal.returns-in-End
returns-in-End g c =
    rw c.in-End.is (
      end_paid g.E.EditorService.starts g.E.EditorService.answers g.E.EditorService.heeds false (g.W.Write.contents c.args.out.now)
          (c.args.progress.now, c.args.service.now),
      refl,
    )

pub returns-in-Body : goal.returns-in-Body
returns-in-Body g c = rw c.in-Body.is (rw c.bytes.ensures at c.take_body.ensures)
