-- The invariants of the loops of `heads::read_head`.
use Rattle.std.proofs.Common.{◌+◌, ◌≡◌, ◌≤◌}
use Rattle.lsp_frames.proofs.HeadSoFar.{HeadSoFar}
use Rattle.lsp_frames.proofs.heads.read_head.Given as goal

abbrev pub invariant-loop-field : goal.invariant-loop-field
invariant-loop-field g l = record {
  reads : g.S.ByteSource.reads l.source + l.reads_left ≡ g.S.ByteSource.reads l.initial.source + l.initial.reads_left;
  so_far : HeadSoFar (g.S.ByteSource.remaining l.initial.source) (g.S.ByteSource.remaining l.source) l.size;
  reader : g.S.ByteSource.failures l.source ≡ g.S.ByteSource.failures l.initial.source;
  turns : l.reads_left ≤ l.initial.reads_left;
}

abbrev pub decreases-loop-field : goal.decreases-loop-field
decreases-loop-field g l = l.reads_left
