-- The answers to the goals of `body::fill`.
use Rattle.std.proofs.Common.{◌≡◌, ◌≤◌, ◌-◌, ◌∙◌, subst, arith, length, take, length-take-le, length-drop}
use Rattle.std.proofs.lemmas.List.{length-take}
use Rattle.std.specs.Io.KnownBytes.{Consumes}
use Rattle.std.proofs.KnownBytes.{Consumes-trans}
use Rattle.std.proofs.lemmas.List.{append-nil}
use Rattle.server_read.proofs.Filled.{take-filled, length-filled}
use Rattle.server_read.proofs.body.fill.Goals as goal

pub returns-then-count-eq0-clause-fills : goal.returns-then-count-eq0-clause-fills
returns-then-count-eq0-clause-fills g c =
    let at = c.loop-at.at in
    let buf = c.loop-at.buf in
    let room = length buf - at in
    let part = c.read_some.new.buf in
    let within : at ≤ length buf = c.loop-at.invariant.within in
    let part_len : length part ≡ room = omega (arith, simp (length-take, length-drop) at c.read_some.auto.buf) in (
      take at buf,
      omega (arith, length-take-le at buf within, length-filled at room buf part within, part_len),
      subst (Consumes (g.S.ByteSource.remaining c.args.source.now) (g.S.ByteSource.remaining c.read_some.new.source)) (append-nil (take at buf))
          (Consumes-trans (g.S.ByteSource.remaining c.args.source.now) (g.S.ByteSource.remaining c.loop-at.source)
          (g.S.ByteSource.remaining c.read_some.new.source)
          (take at buf) _ c.loop-at.invariant.taken (rw c.if-count-eq0.true at c.in_ok-count.ensures.bytes.0)),
      c.in_ok-count.ensures.bytes.1 c.if-count-eq0.true (omega (arith, part_len)),
    )

pub loop-at-preserved : goal.loop-at-preserved
loop-at-preserved g c =
    let at = c.loop-at.at in
    let buf = c.loop-at.buf in
    let n = c.in_ok-count.count in
    let room = length buf - at in
    let part = c.read_some.new.buf in
    let within : at ≤ length buf = c.loop-at.invariant.within in
    record {
      reads = c.in_ok-count.ensures.reads ∙ c.loop-at.invariant.reads;
      within = omega (arith, length-filled at room buf part within, c.in_ok-count.ensures.bound.0);
      taken = rw (take-filled at room n buf part within c.in_ok-count.ensures.bound.0)
          (Consumes-trans (g.S.ByteSource.remaining c.args.source.now) (g.S.ByteSource.remaining c.loop-at.source)
          (g.S.ByteSource.remaining c.read_some.new.source)
          (take at buf) (take n part) c.loop-at.invariant.taken c.in_ok-count.ensures.bytes.0);
      reader = c.in_ok-count.ensures.counted ∙ c.loop-at.invariant.reader;
      turns = omega (arith, c.in_ok-count.ensures.turns);
    }
