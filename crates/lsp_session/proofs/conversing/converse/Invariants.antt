-- The invariants of the loops of `conversing::converse`.
use Rattle.std.proofs.Common.{◌≡◌, ◌+◌}
use Rattle.lsp_session.specs.Turns.{first_progress}
use Rattle.lsp_session.proofs.GoneOn.{HasGoneOn}
use Rattle.lsp_session.proofs.conversing.converse.Given as goal

-- the session went on behind each frame so far
abbrev pub invariant-frames : goal.invariant-frames
invariant-frames g l = record {
  reads : g.S.ByteSource.reads l.source + l.reading.reads_left ≡ 1000000000;
  gone : HasGoneOn g.E.EditorService.starts g.E.EditorService.answers g.E.EditorService.heeds
      ((g.S.ByteSource.remaining l.initial.source, g.W.Write.contents l.initial.out), (first_progress, l.initial.service))
      ((g.S.ByteSource.remaining l.source, g.W.Write.contents l.out), (l.progress, l.service));
}

abbrev pub decreases-frames : goal.decreases-frames
decreases-frames g l = l.reading.reads_left
