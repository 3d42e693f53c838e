-- The answers to the goals of `input::read_line`.
use Rattle.std.proofs.Common.{rules, ◌∙◌, arith}
use Rattle.server_read.proofs.LineSoFar.{long_push, line_read}
use Rattle.server_read.proofs.input.read_line.Goals as goal

pub returns-in-Some-eq10-clause-line : goal.returns-in-Some-eq10-clause-line
returns-in-Some-eq10-clause-line g c =
    rw c.whole_line.ensures
    (line_read c.args.limit (g.S.ByteSource.remaining c.args.source.now) (g.S.ByteSource.remaining c.loop-line.source)
    (g.S.ByteSource.remaining c.read_byte.new.source)
    c.loop-line.line.items c.loop-line.is_too_long c.loop-line.invariant.so_far
    (rw (c.in-Some-eq10.is, c.in-Some-eq10.field-0-test) at c.in_ok-read_byte.ensures.byte))

pub loop-line-preserved : goal.loop-line-preserved
loop-line-preserved g c = record {
  reads = c.in_ok-read_byte.ensures.reads ∙ c.loop-line.invariant.reads;
  grown = c.loop-line.invariant.grown;
  room = c.loop-line.invariant.room;
  so_far = long_push c.args.limit (g.S.ByteSource.remaining c.args.source.now) (g.S.ByteSource.remaining c.loop-line.source)
      (g.S.ByteSource.remaining c.read_byte.new.source)
      c.loop-line.line.items c.loop-line.is_too_long c.in-Some.byte c.loop-line.invariant.so_far
      (rw c.in-Some.is at c.in_ok-read_byte.ensures.byte) (search rules) (omega (arith, c.loop-line.line.ok.0));
  reader = c.in_ok-read_byte.ensures.counted ∙ c.loop-line.invariant.reader;
  turns = omega (arith, c.in_ok-read_byte.ensures.turns);
}
