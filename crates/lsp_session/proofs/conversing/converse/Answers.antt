-- The answers to the goals of `conversing::converse`.
use Rattle.std.proofs.Common.{◌∙◌, arith}
use Rattle.lsp_session.proofs.GoneOn.{ended_by, gone_nowhere, gone_on_by}
use Rattle.lsp_session.specs.Turns.{first_progress}
use Rattle.lsp_session.proofs.conversing.converse.Goals as goal

pub frames-init : goal.frames-init
frames-init g c = record {
  reads = omega (arith, c.requires, c.in_ok-reading.ensures);
  gone = gone_nowhere g.E.EditorService.starts g.E.EditorService.answers g.E.EditorService.heeds
      (g.S.ByteSource.remaining c.args.source.now, g.W.Write.contents c.args.out.now) c.first_progress-progress.result c.args.service.now
      c.first_progress-progress.ensures;
}

pub frames-preserved : goal.frames-preserved
frames-preserved g c = record {
  reads = c.in_ok-take_next.ensures.reads ∙ c.frames.invariant.reads;
  gone = gone_on_by g.E.EditorService.starts g.E.EditorService.answers g.E.EditorService.heeds c.in_ok-take_next.ensures.next.0 _
      ((g.S.ByteSource.remaining c.args.source.now, g.W.Write.contents c.args.out.now), (first_progress, c.args.service.now))
      ((g.S.ByteSource.remaining c.frames.source, g.W.Write.contents c.frames.out), (c.frames.progress, c.frames.service)) (
        (g.S.ByteSource.remaining c.take_next.new.source, g.W.Write.contents c.take_next.new.out),
        (c.take_next.new.progress, c.take_next.new.service),
      ) c.in-GoesOn.is c.frames.invariant.gone c.in_ok-take_next.ensures.next.1;
}

pub returns-in-Ended : goal.returns-in-Ended
returns-in-Ended g c =
    ended_by g.E.EditorService.starts g.E.EditorService.answers g.E.EditorService.heeds c.in_ok-take_next.ensures.next.0 _ c.in-Ended.is_orderly
    (g.S.ByteSource.remaining c.args.source.now) (g.W.Write.contents c.args.out.now) (g.S.ByteSource.remaining c.take_next.new.source)
    (g.W.Write.contents c.take_next.new.out) c.args.service.now c.take_next.new.service
    ((g.S.ByteSource.remaining c.frames.source, g.W.Write.contents c.frames.out), (c.frames.progress, c.frames.service)) c.take_next.new.progress
    c.in-Ended.is c.frames.invariant.gone c.in_ok-take_next.ensures.next.1
