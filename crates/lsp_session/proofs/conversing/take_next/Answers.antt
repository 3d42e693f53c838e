-- The answers to the goals of `conversing::take_next`.
use Rattle.lsp_session.proofs.GoneOn.{frame_taken}
use Rattle.lsp_session.proofs.conversing.take_next.Goals as goal

pub returns-clause-next : goal.returns-clause-next
returns-clause-next g c =
    frame_taken g.E.EditorService.starts g.E.EditorService.answers g.E.EditorService.heeds c.in_ok-frame.frame
    ((g.S.ByteSource.remaining c.args.source.now, g.W.Write.contents c.args.out.now), (c.args.progress.now, c.args.service.now)) (
      (g.S.ByteSource.remaining c.read_frame.new.source, g.W.Write.contents c.take_frame.new.out),
      (c.take_frame.new.progress, c.take_frame.new.service),
    ) c.take_frame.result c.in_ok-frame.ensures.frame c.take_frame.ensures
