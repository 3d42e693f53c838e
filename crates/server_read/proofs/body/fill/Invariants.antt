-- The invariants of the loops of `body::fill`.
use Rattle.std.proofs.Common.{◌+◌, ◌≡◌, ◌≤◌, ◌-◌, length, take}
use Rattle.std.specs.Io.KnownBytes.{Consumes}
use Rattle.server_read.proofs.body.fill.Given as goal

abbrev pub invariant-loop-at : goal.invariant-loop-at
invariant-loop-at g l = record {
  reads : g.S.ByteSource.reads l.source + l.reads_left ≡ g.S.ByteSource.reads l.initial.source + l.initial.reads_left;
  within : l.at ≤ length l.buf;
  taken : Consumes (g.S.ByteSource.remaining l.initial.source) (g.S.ByteSource.remaining l.source) (take l.at l.buf);
  reader : g.S.ByteSource.failures l.source ≡ g.S.ByteSource.failures l.initial.source;
  turns : l.reads_left ≤ l.initial.reads_left;
}

abbrev pub decreases-loop-at : goal.decreases-loop-at
decreases-loop-at g l = length l.buf - l.at
