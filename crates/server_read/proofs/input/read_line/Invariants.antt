-- The invariants of the loops of `input::read_line`.
use Rattle.std.proofs.Common.{◌+◌, ◌≡◌, ◌≤◌, vec_capacity}
use Rattle.server_read.proofs.LineSoFar.{LineSoFar}
use Rattle.server_read.proofs.input.read_line.Given as goal

abbrev pub invariant-loop-line : goal.invariant-loop-line
invariant-loop-line g l = record {
  reads : g.S.ByteSource.reads l.source + l.reads_left ≡ g.S.ByteSource.reads l.initial.source + l.initial.reads_left;
  grown : vec_capacity l.initial.line ≤ vec_capacity l.line;
  room : l.fn.limit ≤ vec_capacity l.line;
  so_far : LineSoFar l.fn.limit (g.S.ByteSource.remaining l.initial.source) (g.S.ByteSource.remaining l.source) l.line.items l.is_too_long;
  reader : g.S.ByteSource.failures l.source ≡ g.S.ByteSource.failures l.initial.source;
  turns : l.reads_left ≤ l.initial.reads_left;
}

abbrev pub decreases-loop-line : goal.decreases-loop-line
decreases-loop-line g l = l.reads_left
