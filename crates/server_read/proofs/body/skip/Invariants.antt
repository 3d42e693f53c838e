-- The invariants of the loops of `body::skip`.
use Rattle.std.proofs.Common.{◌≡◌, ◌≤◌, ◌+◌, ℕ, List, length}
use Rattle.std.specs.Io.KnownBytes.{Consumes}
use Rattle.server_read.proofs.body.skip.Given as goal

abbrev pub invariant-loop-left : goal.invariant-loop-left
invariant-loop-left g l = record {
  reads : g.S.ByteSource.reads l.source + l.reads_left ≡ g.S.ByteSource.reads l.initial.source + l.initial.reads_left;
  taken : (bytes : List ℕ) × (length bytes + l.left ≡ l.fn.size) ×
      Consumes (g.S.ByteSource.remaining l.initial.source) (g.S.ByteSource.remaining l.source) bytes;
  reader : g.S.ByteSource.failures l.source ≡ g.S.ByteSource.failures l.initial.source;
  turns : l.reads_left ≤ l.initial.reads_left;
}

abbrev pub decreases-loop-left : goal.decreases-loop-left
decreases-loop-left g l = l.left
