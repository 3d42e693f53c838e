-- The answers to the goals of `body::skip`.
use Rattle.std.proofs.Common.{◌≤◌, ◌++◌, ◌∙◌, arith, take, length-take-le, length-append}
use Rattle.std.proofs.lemmas.List.{length-take}
use Rattle.std.proofs.KnownBytes.{Consumes-trans}
use Rattle.server_read.proofs.body.skip.Goals as goal

pub loop-left-preserved : goal.loop-left-preserved
loop-left-preserved g c =
    let before = c.loop-left.invariant.taken in
    let n = c.in_ok-count.count in
    let part = c.read_some.new.buf in
    let taken = length-take-le n part c.in_ok-count.ensures.bound.0 in
    let joined = length-append before.0 (take n part) in
    let enough : n ≤ c.loop-left.left = omega (arith, simp length-take at c.read_some.auto.buf, c.min-part.ensures, c.in_ok-count.ensures.bound.0) in
    record {
      reads = c.in_ok-count.ensures.reads ∙ c.loop-left.invariant.reads;
      taken = (
        before.0 ++ take n part,
        omega (arith, taken, joined, before.1, enough),
        Consumes-trans (g.S.ByteSource.remaining c.args.source.now) (g.S.ByteSource.remaining c.loop-left.source)
            (g.S.ByteSource.remaining c.read_some.new.source)
            before.0 (take n part) before.2 c.in_ok-count.ensures.bytes.0,
      );
      reader = c.in_ok-count.ensures.counted ∙ c.loop-left.invariant.reader;
      turns = omega (arith, c.in_ok-count.ensures.turns);
    }
